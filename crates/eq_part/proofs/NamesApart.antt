-- The names of the first partitions in a table: where a name is known, its number is that of the first partition that has it.
use Rattle.std.proofs.Common.{◌≡◌, ℕ, ◌+◌, ◌<◌, ◌≤◌, Bool, true, cond, List, [], ◌∷◌, ◌++◌, map, take, length, Option, Some, None, slice_index_or, sym, ap, subst, ◌∙◌, arith, inl, inr}
use Rattle.std.specs.Str.{bytes_eq}
use Rattle.std.specs.List.{position_or_len}
use Rattle.std.specs.Cmp.Lexicographic.{bytes_decides}
use Rattle.std.proofs.lemmas.Bool.{cases_lt, false≢true, lt-ltb}
use Rattle.std.proofs.lemmas.List.{get_or-map, get_or-take, length-map, map_push, take_more}
use Rattle.std.proofs.lemmas.List.Quantifiers.{position-Some}
use Rattle.std.proofs.lemmas.List.Sums.{fails_before_first}
use Rattle.std.proofs.Math.Seq.{length-take-le}
use Rattle.eq_names.specs.Tables.{number_of}
use Rattle.eq_part.specs.declared.types.Partition.{Partition}
use Rattle.eq_part.specs.Tables.{no_part}
use Rattle.eq_part.specs.Clashes.{AreFirstOfOneName, HaveOneName, part_name}

abbrev pub names_of : List Partition → List (List ℕ)
names_of parts = map (λ (p : Partition). p.name) parts

-- a name among the first q
named_at : (parts : List Partition) (q k : ℕ) → k < q → q ≤ length parts →
    slice_index_or (names_of (take q parts)) k [] ≡ part_name parts k
named_at parts q k less within =
    let size = length-take-le q parts within in
    get_or-map (λ (p : Partition). p.name) (take q parts) k no_part [] (omega arith) ∙
    ap (λ (p : Partition). p.name) (get_or-take q parts k no_part less)

count : (parts : List Partition) (q : ℕ) → q ≤ length parts → length (names_of (take q parts)) ≡ q
count parts q within = length-map (take q parts) (λ (p : Partition). p.name) ∙ length-take-le q parts within

-- a known name is that of the partition of its number, and of none before it
pub known_name : (parts : List Partition) (q p : ℕ) (text : List ℕ) → q ≤ length parts →
    number_of (names_of (take q parts)) text ≡ Some p →
    (p < q) × (part_name parts p ≡ text) × ((k : ℕ) → k < p → part_name parts k ≡ text → ⊥)
known_name parts q p text within is =
    let at = position-Some (λ name. bytes_eq text name) (names_of (take q parts)) p [] is in
    let size = count parts q within in
    let less : p < q = subst (λ n. p < n) size at.0 in (
      less,
      sym ((bytes_decides text (slice_index_or (names_of (take q parts)) p [])).0 at.1 ∙ named_at parts q p less within),
      (λ k before same.
          let there = named_at parts q k (omega arith) within in
          let equal : bytes_eq text (slice_index_or (names_of (take q parts)) k []) ≡ true =
          (bytes_decides text (slice_index_or (names_of (take q parts)) k [])).1 (sym (there ∙ same)) in
          false≢true (sym (at.2 k before) ∙ equal)),
    )

-- an unknown name is that of no partition so far
pub new_name : (parts : List Partition) (q k : ℕ) (text : List ℕ) → q ≤ length parts →
    number_of (names_of (take q parts)) text ≡ None → k < q → part_name parts k ≡ text → ⊥
new_name parts q k text within is less same =
    let names = names_of (take q parts) in
    let first = position_or_len (λ name. bytes_eq text name) names in
    elim (cases_lt first (length names)) [
      | inl found ↦
          let two : ◌≡◌ {A = Option ℕ} None (Some first) =
          sym is ∙ ap (λ (b : Bool). cond {A = Option ℕ} b (Some first) None) (lt-ltb _ _ found) in
          absurd (cc)
      | inr past ↦
          let size = count parts q within in
          let there = named_at parts q k less within in
          let fails = fails_before_first (λ name. bytes_eq text name) names k [] (omega arith) in
          let equal : bytes_eq text (slice_index_or names k []) ≡ true =
          (bytes_decides text (slice_index_or names k [])).1 (sym (there ∙ same)) in
          false≢true (sym fails ∙ equal)
    ]

-- where the names so far are apart, the first partition whose name is known makes the first two of one name
pub first_two : (parts : List Partition) (q p : ℕ) (name : List ℕ) → q < length parts →
    name ≡ part_name parts q → ((s t : ℕ) → HaveOneName parts s t → q ≤ t) →
    number_of (names_of (take q parts)) name ≡ Some p → AreFirstOfOneName parts p q
first_two parts q p name there is apart known =
    let at = known_name parts q p name (omega arith) known in
    record {
      clash = record { before = at.0; there = there; one = at.1 ∙ is };
      first = λ s t one. elim (cases_lt q t) [
        | inl later ↦ inl later
        | inr not_later ↦
            let earlier = apart s t one in
            let same : q ≡ t = omega arith in
            inr (
              same,
              elim (cases_lt s p) [
                | inl less ↦ absurd (at.2 s less (one.one ∙ ap (part_name parts) (sym same) ∙ sym is))
                | inr least ↦ omega arith
              ],
            )
      ];
    }

-- and where it is unknown, the names are apart with it
pub one_more : (parts : List Partition) (q : ℕ) (name : List ℕ) → q < length parts →
    name ≡ part_name parts q → ((s t : ℕ) → HaveOneName parts s t → q ≤ t) →
    number_of (names_of (take q parts)) name ≡ None → (s t : ℕ) → HaveOneName parts s t → q + 1 ≤ t
one_more parts q name there is apart unknown s t one = elim (cases_lt q t) [
  | inl later ↦ omega arith
  | inr not_later ↦
      let earlier = apart s t one in
      let same : q ≡ t = omega arith in
      let before : s < q = subst (λ n. s < n) (sym same) one.before in
      absurd (new_name parts q s name (omega arith) unknown before
      (one.one ∙ ap (part_name parts) (sym same) ∙ sym is))
]

-- the names with one more
pub names_more : (parts : List Partition) (q : ℕ) (name : List ℕ) (old new : List (List ℕ)) → q < length parts →
    name ≡ part_name parts q → old ≡ names_of (take q parts) → new ≡ old ++ name ∷ [] →
    new ≡ names_of (take (q + 1) parts)
names_more parts q name old new there is before after =
    after ∙ ap (λ (ns : List (List ℕ)). ns ++ name ∷ []) before ∙
    ap (λ (n : List ℕ). names_of (take q parts) ++ n ∷ []) is ∙
    sym (ap names_of (take_more parts q no_part there) ∙
    map_push (λ (p : Partition). p.name) (take q parts) (slice_index_or parts q no_part))
