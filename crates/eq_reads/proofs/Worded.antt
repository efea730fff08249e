-- The nodes of words, from those of their operands.
use Rattle.std.proofs.Common.{◌≡◌, ℕ, zero, suc, ◌+◌, ◌-◌, ◌<◌, ◌≤◌, ◌⊎◌, ◌↔◌, List, [], ◌∷◌, ◌++◌, Bool, false, cond, drop, length, slice_get, slice_index_or, All, Contains, refl, arith, sym, ap, subst, ◌∙◌, inl, inr}
use Rattle.std.proofs.lemmas.Bool.{lt-leb, lt-ltb}
use Rattle.std.proofs.lemmas.List.Elements.{All-head, All-tail, All-weaker, Contains-append_cases, Contains-append_left, Contains-append_right}
use Rattle.eq_names.specs.declared.BitName.{BitName}
use Rattle.eq_net.specs.declared.types.NetInfo.{NetInfo}
use Rattle.eq_net.specs.declared.types.RedOp.{RedOp}
use Rattle.eq_net.specs.declared.types.WordBit.{WordBit}
use Rattle.eq_net.specs.declared.types.WordOp.{WordOp}
use Rattle.eq_net.specs.Meaning.{if_there, reads_of, result_size, width}
use Rattle.eq_net.specs.Net.{HasBit, HasWordBit, number_of, word_at}
use Rattle.eq_net.specs.Operators.{Reads, all_reads, has_free_sizes}
use Rattle.eq_net.specs.Tree.{Tree, binary, choice, const, extended, join_all, joined, opposite, pick, read, reduced}
use Rattle.eq_reads.specs.declared.graph.Nodes.{Nodes}
use Rattle.eq_reads.specs.inner.Leading.{Appended, EachLeads, NodesGrew, PairLeads, RowGrew, SomeLeads, UpLeads}
use Rattle.eq_reads.specs.Words.{LeadsTo, IsPlaced, IsReady, reads_before, number_at}
use Rattle.eq_reads.specs.inner.Reading.{ReadIn, TreeReads, WordGrew, named_at, no_bit, no_name, picked_at}
use Rattle.eq_reads.specs.inner.Shapes.{AllLead, OperandsLead, ranges_for, ranges_of, shape_of, size_of}
use Rattle.eq_reads.proofs.Grown.{leaf_leads, none_leads, still}
use Rattle.eq_reads.proofs.Layers.{rest_from}
use Rattle.eq_reads.proofs.Operated.{in_operation, inside, operation_in}
use Rattle.eq_reads.proofs.Placed.{named_there}
use Rattle.eq_reads.proofs.Ranged.{all_in, in_all, none_read}
use Rattle.eq_reads.proofs.Rows.{appended_row, in_some, row_beside, row_cut, row_over, row_same, row_still, row_then, some_in}
use Rattle.eq_reads.proofs.Shaped.{size_of_shape}
use Rattle.eq_reads.proofs.Ways.{table_word}

-- what is read at one position as a range of one
at_one : (r : Reads) (j b : ℕ) → Contains (r j) b → ReadIn r j (suc j) b
at_one r j b c = record { position = j; from_low = omega arith; to_high = omega arith; reads = c }

one_at : (r : Reads) (j b : ℕ) → ReadIn r j (suc j) b → Contains (r j) b
one_at r j b i =
    let x = i.from_low in
    let y = i.to_high in
    let at : i.position ≡ j = omega arith in
    subst (λ (k : ℕ). Contains (r k) b) at i.reads

-- an element that is there
there_at : {A : Type 0} (g : A → List ℕ) (xs : List A) (k : ℕ) (d : A) → k < length xs → if_there {A = A} {B = List ℕ}
    [] g (slice_get xs k) ≡ g (slice_index_or xs k d)
there_at g [] k d lt = absurd (omega arith)
there_at g (x ∷ xs) zero d lt = refl
there_at g (x ∷ xs) (suc k) d lt = there_at g xs k d (omega arith)

pub all_within : {A : Type 0} (P : A → Type 0) (xs : List A) (d : A) → All P xs → (k : ℕ) → k < length xs →
    P (slice_index_or xs k d)
all_within P [] d all k lt = absurd (omega arith)
all_within P (x ∷ xs) d all zero lt = All-head P x xs all
all_within P (x ∷ xs) d all (suc k) lt = all_within P xs d (All-tail P x xs all) k (omega arith)

one_element : (x c : ℕ) → (x ≡ c) ↔ Contains (x ∷ []) c
one_element x c = (λ e. (0, omega arith, e), only)
  where
    only : Contains (x ∷ []) c → x ≡ c
    only (zero, lt, e) = e
    only (suc k, lt, e) = absurd (omega arith)

module _ (nets : List NetInfo) (words : List Tree) (places : List ℕ) where
  abbrev R : Tree → Reads
  R t = reads_of (number_of nets) (reads_before nets words (length places)) t

  pub placed_bits : (s : Nodes) (row : List ℕ) → IsReady nets words places s row → (bits : List WordBit) →
      All (HasWordBit words (length places)) bits → All (IsPlaced places row) bits
  placed_bits s row ready bits all =
      All-weaker (HasWordBit words (length places)) (IsPlaced places row)
      (λ b has. (has.0, (ready.told b.word b.bit has.0 has.1).there)) bits all

  module _ (s : Nodes) (row : List ℕ) (ready : IsReady nets words places s row) where
    -- ---- words without operands

    pub const_grew : (after : List ℕ) (bits : List Bool) → Appended row after (length bits) (λ j. s.none) →
        WordGrew nets words places s row s after (const bits)
    const_grew after bits a = appended_row s row after (length bits) (λ j. s.none)
        (TreeReads nets words (length places) (const bits)) ready.are ready.there a
        (λ j lt. ready.are.room) (λ j c lt. (λ l. absurd (none_leads s ready.are c l), λ h. absurd (none_read c h)))

    pub read_grew : (after : List ℕ) (names : List BitName) → All (HasBit nets) names → Appended row after
        (length names) (named_at nets names) →
        WordGrew nets words places s row s after (read names)
    read_grew after names all a =
        let below : (j : ℕ) → j < length names → named_at nets names j < s.none =
        λ j lt. (let l = named_there nets (slice_index_or names j no_name) (all_within (HasBit nets) names
        no_name all j lt) in let low = ready.low in omega arith) in
        appended_row s row after (length names) (named_at nets names)
        (TreeReads nets words (length places) (read names)) ready.are ready.there a
        (λ j lt. (let l = below j lt in let room = ready.are.room in omega arith))
        (λ j c lt. (
        let x = named_at nets names j in
        let leaf = leaf_leads s.edges.items s.none x c (below j lt) in
        let one = one_element x c in
        let is = there_at (λ n. number_of nets n ∷ []) names j no_name lt in
        let P : List ℕ → Type 0 = λ rs. Contains rs c in
        (λ l. subst P (sym is) (one.0 (leaf.0 l)), λ h. leaf.1 (one.1 (subst P is h)))))

    pub pick_grew : (after : List ℕ) (bits : List WordBit) → All (HasWordBit words (length places)) bits →
        Appended row after (length bits) (picked_at places row bits) →
        WordGrew nets words places s row s after (pick bits)
    pick_grew after bits all a =
        let has : (j : ℕ) → j < length bits → HasWordBit words (length places) (slice_index_or bits j no_bit) =
        λ j lt. all_within (HasWordBit words (length places)) bits no_bit all j lt in
        appended_row s row after (length bits) (picked_at places row bits)
        (TreeReads nets words (length places) (pick bits)) ready.are ready.there a
        (λ j lt. (let b = slice_index_or bits j no_bit in let h = has j lt in ready.there
        (number_at places b.word + b.bit) (ready.told b.word b.bit h.0 h.1).there))
        (λ j c lt. (
        let b = slice_index_or bits j no_bit in
        let h = has j lt in
        let told = (ready.told b.word b.bit h.0 h.1).leads c in
        let is = there_at (λ (w : WordBit). reads_before nets words (length places) w.word w.bit) bits j no_bit lt
        ∙ table_word (reads_of (number_of nets)) words (length places) b.word b.bit h.0 in
        let P : List ℕ → Type 0 = λ rs. Contains rs c in
        (λ l. subst P (sym is) (told.0 l), λ r. told.1 (subst P is r))))

    -- ---- words with one operand
    module _ (t : Nodes) (mid : List ℕ) (a : Tree) (f : WordGrew nets words places s row t mid a) where
      abbrev from : ℕ
      from = length row

      -- all that the lowest positions lead to
      lowest : (j c : ℕ) → suc j ≤ width a → SomeLeads t mid from (from + suc j) c ↔ Contains
          (all_reads (suc j) (R a)) c
      lowest j c le = (
        λ i. in_all (suc j) (R a) c (some_in t mid from (width a) (R a) f.leads 0 (suc j) c from (from + suc j)
            (omega arith) refl le i),
        λ h. in_some t mid from (width a) (R a) f.leads 0 (suc j) c from (from + suc j) (omega arith) refl le
            (all_in (suc j) (R a) c h),
      )

      whole_row : (c : ℕ) → SomeLeads t mid from (length mid) c ↔ Contains (all_reads (width a) (R a)) c
      whole_row c = (
        λ i. in_all (width a) (R a) c (some_in t mid from (width a) (R a) f.leads 0 (width a) c from (length mid)
            (omega arith) f.size (omega arith) i),
        λ h. in_some t mid from (width a) (R a) f.leads 0 (width a) c from (length mid) (omega arith) f.size
            (omega arith) (all_in (width a) (R a) c h),
      )

      pub opposite_grew : (now : Nodes) (after : List ℕ) → RowGrew t mid now after from (length mid - from)
          (UpLeads t mid from s.none) →
          WordGrew nets words places s row now after (opposite a)
      opposite_grew now after g =
          let size = f.size in
          row_then s row t mid now after from (width a) (length mid - from) (width a)
          (TreeReads nets words (length places) a) (UpLeads t mid from s.none)
          (TreeReads nets words (length places) (opposite a)) (omega arith) f
          (λ j c lt. (let l = lowest j c (omega arith) in (
            λ e. elim e [
              | inl n ↦ absurd (none_leads t f.nodes.are c (subst (λ (x : ℕ). LeadsTo t x c) (sym f.nodes.none) n))
              | inr i ↦ l.0 i
            ],
            λ h. inr (l.1 h),
          )))
          g

      all_reduced : (o : RedOp) (j c : ℕ) → j < 1 → AllLead t mid from j c ↔ TreeReads nets words (length places)
          (reduced o a) j c
      all_reduced o zero c lt = whole_row c
      all_reduced o (suc j) c lt = absurd (omega arith)

      pub reduced_grew : (now : Nodes) (after : List ℕ) (o : RedOp) → RowGrew t mid now after from 1
          (AllLead t mid from) → WordGrew nets words places s row now after (reduced o a)
      reduced_grew now after o g =
          row_then s row t mid now after from (width a) 1 1 (TreeReads nets words (length places) a) (AllLead t mid from)
          (TreeReads nets words (length places) (reduced o a)) refl f
          (all_reduced o) g

      pub extended_grew : (after : List ℕ) (n z : ℕ) → width a ≤ n → Appended mid after z (λ j. s.none) →
          z ≡ n - (length mid - from) →
          WordGrew nets words places s row t after (extended a n)
      extended_grew after n z le ap_end is_z =
          let size = f.size in
          let none = f.nodes.none in
          let Z : ℕ → ℕ → Type 0 = λ j c. Contains [] c in
          let zeros : RowGrew t mid t after (length mid) z Z =
          appended_row t mid after z (λ j. s.none) Z f.nodes.are f.there ap_end
          (λ j lt. (let room = f.nodes.are.room in omega arith))
          (λ j c lt. (
            λ l. absurd (none_leads t f.nodes.are c (subst (λ (x : ℕ). LeadsTo t x c) (sym none) l)),
            λ h. absurd (none_read c h),
          )) in
          let E = TreeReads nets words (length places) (extended a n) in
          row_same s row t after from (width a + z) n E E (omega arith) (λ j c lt. (λ l. l, λ l. l))
          (row_beside s row t mid t after from (width a) z (TreeReads nets words (length places) a) Z E f zeros
          (λ j c lt. (let T : Bool → Type 0 = λ b. Contains (cond b (R a j) []) c in let is = lt-ltb j (width a) lt in
          (λ h. subst T (sym is) h, λ h. subst T is h)))
          (λ j c lt. (
          let T : Bool → Type 0 = λ b. Contains (cond b (R a (width a + j)) []) c in
          let is = lt-leb (suc (width a + j)) (width a) (omega arith) in
          (λ h. subst T (sym is) h, λ h. subst T is h))))

      -- ---- two operands
      module _ (u : Nodes) (low : List ℕ) (b : Tree) (g : WordGrew nets words places t mid u low b) where
        left_leads : (j : ℕ) → j < width a → (c : ℕ) → LeadsTo u (number_at low (from + j)) c ↔ Contains (R a j) c
        left_leads j lt c =
            let size = f.size in
            let k = row_still t u mid low (from + j) c f.nodes.are g.nodes (f.there (from + j) (omega arith))
            (g.kept (from + j) (omega arith)) in
            let e = f.leads j lt c in
            (λ l. e.0 (k.0 l), λ h. k.1 (e.1 h))

        both_rows : RowGrew s row u low from (width a + width b) (λ j c. LeadsTo u (number_at low (from + j)) c)
        both_rows = row_over s row t mid u low from (width a) (width b) (TreeReads nets words (length places) a)
            (TreeReads nets words (length places) b) f g

        abbrev Operands : WordOp → ℕ → ℕ → ℕ → ℕ → Type 0
        Operands o m n j c =
            SomeLeads u low (from + (ranges_for (shape_of o) m n j (suc j)).left_low)
            (from + (ranges_for (shape_of o) m n j (suc j)).left_high) c ⊎
            SomeLeads u low (length mid + (ranges_for (shape_of o) m n j (suc j)).right_low)
            (length mid + (ranges_for (shape_of o) m n j (suc j)).right_high) c

        operands_lead : (o : WordOp) → (has_free_sizes o ≡ false → width a ≡ width b) → (j c : ℕ) → j < result_size o
            (width a) →
            Operands o (width a) (width b) j c ↔ TreeReads nets words (length places) (binary o a b) j c
        operands_lead o same j c lt =
            let m = width a in
            let n = width b in
            let s = ranges_of o m n j (suc j) in
            let i = inside o m n j (suc j) (omega arith) same in
            let apply = R (binary o a b) in (
              λ e. one_at apply j c (in_operation (R a) (R b) m n (suc j) c j o (omega arith) (elim e [
                | inl x ↦ inl (some_in u low from m (R a) left_leads s.left_low s.left_high c (from + s.left_low)
                    (from + s.left_high) refl refl i.left x)
                | inr y ↦ inr (some_in u low (length mid) n (R b) g.leads s.right_low s.right_high c
                    (length mid + s.right_low) (length mid + s.right_high) refl refl i.right y)
              ])),
              λ h. elim (operation_in (R a) (R b) m n (suc j) c j o (at_one apply j c h)) [
                | inl x ↦ inl (in_some u low from m (R a) left_leads s.left_low s.left_high c (from + s.left_low)
                    (from + s.left_high) refl refl i.left x)
                | inr y ↦ inr (in_some u low (length mid) n (R b) g.leads s.right_low s.right_high c
                    (length mid + s.right_low) (length mid + s.right_high) refl refl i.right y)
              ],
            )

        pub binary_grew : (now : Nodes) (after : List ℕ) (o : WordOp) → (has_free_sizes o ≡ false → width a ≡ width b) →
            RowGrew u low now after from (size_of (shape_of o) (length mid - from))
            (OperandsLead (shape_of o) u low from (length mid)) →
            WordGrew nets words places s row now after (binary o a b)
        binary_grew now after o same h =
            let f_size = f.size in
            let g_size = g.size in
            let is_m : length mid - from ≡ width a = omega arith in
            let is_n : length low - length mid ≡ width b = omega arith in
            let size = ap (size_of (shape_of o)) is_m ∙ size_of_shape o (width a) in
            let swap : (j c : ℕ) → OperandsLead (shape_of o) u low from (length mid) j c ↔ Operands o (width a)
            (width b) j c =
            λ j c. (
              λ e. subst (λ (n : ℕ). Operands o (width a) n j c) is_n
                  (subst (λ (m : ℕ). Operands o m (length low - length mid) j c) is_m e),
              λ e. subst (λ (m : ℕ). Operands o m (length low - length mid) j c) (sym is_m)
                  (subst (λ (n : ℕ). Operands o (width a) n j c) (sym is_n) e),
            ) in
            row_then s row u low now after from (width a + width b) (size_of (shape_of o) (length mid - from))
            (result_size o (width a))
            (λ j c. LeadsTo u (number_at low (from + j)) c) (OperandsLead (shape_of o) u low from (length mid))
            (TreeReads nets words (length places) (binary o a b)) size both_rows
            (λ j c lt. (let x = swap j c in let y = operands_lead o same j c lt in (
              λ e. y.0 (x.0 e),
              λ e. x.1 (y.1 e),
            )))
            h

  -- what all nodes of a word lead to
  all_of : (s : Nodes) (row : List ℕ) (t : Nodes) (mid : List ℕ) (a : Tree) → WordGrew nets words places s row t mid a →
      (c : ℕ) →
      SomeLeads t mid (length row) (length mid) c ↔ Contains (all_reads (width a) (R a)) c
  all_of s row t mid a f c = (
    λ i. in_all (width a) (R a) c (some_in t mid (length row) (width a) (R a) f.leads 0 (width a) c (length row)
        (length mid) (omega arith) f.size (omega arith) i),
    λ h. in_some t mid (length row) (width a) (R a) f.leads 0 (width a) c (length row) (length mid) (omega arith)
        f.size (omega arith) (all_in (width a) (R a) c h),
  )

  -- ---- a choice of two
  module _ (s : Nodes) (row : List ℕ) (t1 : Nodes) (r1 : List ℕ) (k : Tree) (fk : WordGrew nets words places s row t1 r1 k)
      (t2 : Nodes) (r2 : List ℕ) (node : ℕ) (grew : NodesGrew t1 t2) (there : node < t2.next)
      (all : (c : ℕ) → LeadsTo t2 node c ↔ SomeLeads t1 r1 (length row) (length r1) c)
      (size : length r2 ≡ length row) (kept : (p : ℕ) → p < length row → number_at r2 p ≡ number_at r1 p) where
    pub cut_row : RowGrew s row t2 r2 (length row) 0 (λ j c. ⊥)
    cut_row = row_cut s row t1 r1 t2 r2 (length row) (width k) (TreeReads nets words (length places) k) (λ j c. ⊥) fk grew
        size kept

    module _ (t3 : Nodes) (r3 : List ℕ) (a : Tree) (fa : WordGrew nets words places t2 r2 t3 r3 a) (t4 : Nodes)
        (r4 : List ℕ) (b : Tree) (fb : WordGrew nets words places t3 r3 t4 r4 b)
        (same : width a ≡ width b) where
      abbrev base : ℕ
      base = length row

      pub branches_size : length r4 ≡ length r3 + (length r3 - base)
      branches_size = (let x = fa.size in let y = fb.size in omega arith)

      branch_rows : RowGrew s row t4 r4 base (width a + width b) (λ j c. LeadsTo t4 (number_at r4 (base + j)) c)
      branch_rows =
          let A = TreeReads nets words (length places) a in
          let B = TreeReads nets words (length places) b in
          let three : RowGrew s row t3 r3 base (0 + width a) (λ j c. LeadsTo t3 (number_at r3 (base + j)) c) =
          row_over s row t2 r2 t3 r3 base 0 (width a) (λ j c. ⊥) A cut_row fa in
          let L : ℕ → ℕ → Type 0 = λ j c. LeadsTo t4 (number_at r4 (base + j)) c in
          row_same s row t4 r4 base ((0 + width a) + width b) (width a + width b) L L (omega arith)
          (λ j c lt. (λ l. l, λ l. l))
          (row_over s row t3 r3 t4 r4 base (0 + width a) (width b) (λ j c. LeadsTo t3 (number_at r3 (base + j)) c) B
          three fb)

      branch_leads : (j c : ℕ) → j < width a → PairLeads t4 r4 base (length r3) j c ↔
          (Contains (R a j) c ⊎ Contains (R b j) c)
      branch_leads j c lt =
          let x = fa.size in
          let at : length r2 + j ≡ base + j = omega arith in
          let p = length r2 + j in
          let keep = row_still t3 t4 r3 r4 p c fa.nodes.are fb.nodes (fa.there p (omega arith))
          (fb.kept p (omega arith)) in
          let e = fa.leads j lt c in
          let h = fb.leads j (omega arith) c in
          let P : ℕ → Type 0 = λ q. LeadsTo t4 (number_at r4 q) c in (
            λ o. elim o [ inl l ↦ inl (e.0 (keep.0 (subst P (sym at) l))) | inr l ↦ inr (h.0 l) ],
            λ o. elim o [ inl l ↦ inl (subst P at (keep.1 (e.1 l))) | inr l ↦ inr (h.1 l) ],
          )

      pub choice_grew : (t5 : Nodes) (r5 : List ℕ) (t6 : Nodes) (r6 : List ℕ) →
          RowGrew t4 r4 t5 r5 base (length r3 - base) (PairLeads t4 r4 base (length r3)) → RowGrew t5 r5 t6 r6 base
          (length r5 - base) (EachLeads t5 r5 base node) →
          WordGrew nets words places s row t6 r6 (choice k a b)
      choice_grew t5 r5 t6 r6 fp fm =
          let x = fa.size in
          let y = fp.size in
          let count : length r3 - base ≡ width a = omega arith in
          let five : RowGrew s row t5 r5 base (width a) (λ j c. Contains (R a j) c ⊎ Contains (R b j) c) =
          row_then s row t4 r4 t5 r5 base (width a + width b) (length r3 - base) (width a)
          (λ j c. LeadsTo t4 (number_at r4 (base + j)) c) (PairLeads t4 r4 base (length r3))
          (λ j c. Contains (R a j) c ⊎ Contains (R b j) c) count branch_rows branch_leads fp in
          let t2_later = fa.nodes.later in
          let condition : (c : ℕ) → LeadsTo t5 node c ↔ Contains (all_reads (width k) (R k)) c =
          λ c. (
          let a3 = still t2 t3 cut_row.nodes.are fa.nodes node c there in
          let a4 = still t3 t4 fa.nodes.are fb.nodes node c (omega arith) in
          let t3_later = fb.nodes.later in
          let a5 = still t4 t5 fb.nodes.are fp.nodes node c (omega arith) in
          let w = all_of s row t1 r1 k fk c in
          let o = all c in
          (λ l. w.0 (o.0 (a3.0 (a4.0 (a5.0 l)))), λ h. a5.1 (a4.1 (a3.1 (o.1 (w.1 h)))))) in
          row_then s row t5 r5 t6 r6 base (width a) (length r5 - base) (width a) (λ j c. Contains (R a j) c ⊎ Contains
          (R b j) c) (EachLeads t5 r5 base node)
          (TreeReads nets words (length places) (choice k a b)) (omega arith) five
          (λ j c lt. (
          let e = five.leads j lt c in
          let q = condition c in
          let rk = all_reads (width k) (R k) in
          let ra = R a j in
          let rb = R b j in (
            λ o. elim o [
              | inl l ↦ Contains-append_right rk (ra ++ rb) c
                  (elim (e.0 l) [ inl h ↦ Contains-append_left ra rb c h | inr h ↦ Contains-append_right ra rb c h ])
              | inr l ↦ Contains-append_left rk (ra ++ rb) c (q.0 l)
            ],
            λ h. elim (Contains-append_cases rk (ra ++ rb) c h) [
              | inl z ↦ inr (q.1 z)
              | inr z ↦ inl (e.1 (Contains-append_cases ra rb c z))
            ],
          )))
          fm

  -- ---- words that are joined
  pub part_grew : (s : Nodes) (row : List ℕ) (t : Nodes) (mid : List ℕ) (now : Nodes) (after : List ℕ)
      (ts : List Tree) (k : ℕ) → k < length ts →
      WordGrew nets words places s row t mid (join_all (drop (suc k) ts)) → WordGrew nets words places t mid now after
      (word_at ts k) →
      WordGrew nets words places s row now after (join_all (drop k ts))
  part_grew s row t mid now after ts k lt f g =
      let rest = join_all (drop (suc k) ts) in
      let part = word_at ts k in
      let n = width rest in
      let J = TreeReads nets words (length places) (joined part rest) in
      let P : List Tree → Type 0 = λ us. WordGrew nets words places s row now after (join_all us) in
      subst P (sym (rest_from ts k lt))
      (row_same s row now after (length row) (n + width part) (width part + n) J J (omega arith)
      (λ j c lt. (λ l. l, λ l. l))
      (row_beside s row t mid now after (length row) n (width part) (TreeReads nets words (length places) rest)
      (TreeReads nets words (length places) part) J f g
      (λ j c lt. (let T : Bool → Type 0 = λ b. Contains (cond b (R rest j) (R part (j - n))) c in let is = lt-ltb j n
      lt in (λ h. subst T (sym is) h, λ h. subst T is h)))
      (λ j c lt. (
      let T : Bool → Type 0 = λ b. Contains (cond b (R rest (n + j)) (R part ((n + j) - n))) c in
      let is = lt-leb (suc (n + j)) n (omega arith) in
      let at : (n + j) - n ≡ j = omega arith in
      let Q : ℕ → Type 0 = λ i. Contains (R part i) c in
      (λ h. subst T (sym is) (subst Q (sym at) h), λ h. subst Q at (subst T is h))))))
