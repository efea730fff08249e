-- Bits that are added, one after the other: each has its place, and there are no others.
use Rattle.std.proofs.Common.{◌≡◌, ℕ, suc, ◌<◌, ◌^◌, ◌==◌, ◌||◌, nat_eq, Bool, true, false, cond, List, [], ◌∷◌, ◌++◌, length, length-append, slice_get, slice_index_or, Option, Some, None, is_some, All, refl, arith, sym, ap, subst, ◌∙◌, inl, inr, ◌⊎◌}
use Rattle.std.proofs.lemmas.Bool.{cases_Bool, false≢true}
use Rattle.std.proofs.lemmas.Bool.Decides.{Decides-eqb}
use Rattle.std.proofs.lemmas.Option.{none-some, same_Some, slice_get-get_or}
use Rattle.eq_names.specs.declared.BitName.{BitName}
use Rattle.eq_net.specs.declared.types.NetInfo.{NetInfo}
use Rattle.eq_net.specs.Meaning.{if_there}
use Rattle.eq_net.specs.Net.{HasBit, bits_of, number_of}
use Rattle.eq_verilog.specs.Clocks.{is_bit}
use Rattle.eq_verilog.specs.Trees.{Name, StmtTree, idle, sequence}
use Rattle.eq_verilog.specs.Scopes.{Scope}
use Rattle.eq_verilog.specs.Equations.{place_below}
use Rattle.eq_verilog.specs.Registers.{sets}
use Rattle.eq_analysis.specs.Finding.{scope_of}
use Rattle.eq_flatten.specs.Equating.{AreNumbered, AreStarts}
use Rattle.eq_registers.specs.declared.keys.Keys.{Keys}
use Rattle.eq_registers.specs.Collecting.{IsCollected, IsKeyed}
use Rattle.eq_registers.specs.Running.{HasKeys, IsStmtReady, Places, place_at}
use Rattle.eq_registers.specs.inner.Adding.{AreInRow, IsAdded, IsAmong, just, stands}
use Rattle.eq_registers.proofs.Placed.{get_end, get_front, get_place}
use Rattle.eq_registers.proofs.Written.{bit_below, numbers_agree}

some_there : {X : Type 0} (o : Option X) → is_some o ≡ true → (x : X) × (o ≡ Some x)
some_there None e = absurd (false≢true e)
some_there (Some x) e = (x, refl)

none_there : {X : Type 0} (o : Option X) → is_some o ≡ false → o ≡ None
none_there None e = refl
none_there (Some x) e = absurd (false≢true (sym e))

-- ---- one bit

-- places where a bit that has none gets the next
module _ (bits : List ℕ) (places after : Places) (bit : ℕ) (has : HasKeys bits places) (new : place_at places bit ≡ None)
    (step : (b : ℕ) → place_at after b ≡ cond (nat_eq bit b) (Some (length bits)) (place_at places b)) where
  abbrev More : List ℕ
  More = bits ++ bit ∷ []

  place_same : (b : ℕ) → nat_eq bit b ≡ true → place_at after b ≡ Some (length bits)
  place_same b is = step b ∙ ap (λ (t : Bool). cond t (Some (length bits)) (place_at places b)) is

  place_other : (b : ℕ) → nat_eq bit b ≡ false → place_at after b ≡ place_at places b
  place_other b is = step b ∙ ap (λ (t : Bool). cond t (Some (length bits)) (place_at places b)) is

  more_listed : (b p : ℕ) → place_at after b ≡ Some p → slice_get More p ≡ Some b
  more_listed b p at = elim (cases_Bool (nat_eq bit b)) [
    | inl same ↦
        let here : length bits ≡ p = same_Some (length bits) p (sym (place_same b same) ∙ at) in
        let is : bit ≡ b = (Decides-eqb bit b).0 same in
        ap (λ (i : ℕ). slice_get More i) (sym here) ∙ get_end bits bit ∙ ap (λ (x : ℕ). Some x) is
    | inr other ↦ get_front bits (bit ∷ []) p b (has.listed b p (sym (place_other b other) ∙ at))
  ]

  more_placed : (b p : ℕ) → slice_get More p ≡ Some b → place_at after b ≡ Some p
  more_placed b p at = elim (get_place bits bit p b at) [
    | inl old ↦
        let found = has.placed b p old in
        elim (cases_Bool (nat_eq bit b)) [
          | inl same ↦
              let is : bit ≡ b = (Decides-eqb bit b).0 same in
              absurd (none-some p (sym new ∙ ap (λ (x : ℕ). place_at places x) is ∙ found))
          | inr other ↦ place_other b other ∙ found
        ]
    | inr last ↦
        place_same b ((Decides-eqb bit b).1 last.1) ∙ ap (λ (i : ℕ). Some i) (sym last.0)
  ]

module _ (nets : List NetInfo) where
  abbrev Added : Keys → Keys → (ℕ → Bool) → Type 0
  Added old new f = IsAdded nets old new f

  pub key_there : (keys : Keys) (bit : ℕ) → is_some (place_at keys.places bit) ≡ true → IsKeyed nets keys →
      Added keys keys (just bit)
  key_there keys bit there keyed = record {
    keyed = keyed;
    kept = λ b h. h;
    added = λ b is.
        let found = some_there (place_at keys.places bit) there in
        let same : bit ≡ b = (Decides-eqb bit b).0 is in
        (found.0, keyed.has.listed bit found.0 found.1 ∙ ap (λ (x : ℕ). Some x) same);
    only = λ b h. inr h;
  }

  module _ (old new : Keys) (name : BitName) (bit : ℕ) (is_new : is_some (place_at old.places bit) ≡ false)
      (bits : new.bits ≡ old.bits ++ bit ∷ []) (names : new.names ≡ old.names ++ name ∷ [])
      (step : (b : ℕ) → place_at new.places b ≡ cond (nat_eq bit b) (Some (length old.bits)) (place_at old.places b))
      (there : HasBit nets name) (number : bit ≡ number_of nets name) (keyed : IsKeyed nets old) where
    new_has : HasKeys new.bits new.places
    new_has =
        let none = none_there (place_at old.places bit) is_new in
        subst (λ (bs : List ℕ). HasKeys bs new.places) (sym bits) (record {
          listed = more_listed old.bits old.places new.places bit keyed.has none step;
          placed = more_placed old.bits old.places new.places bit keyed.has none step;
        })

    new_named : (p : ℕ) (n : BitName) → slice_get (old.names ++ name ∷ []) p ≡ Some n →
        HasBit nets n × (slice_get (old.bits ++ bit ∷ []) p ≡ Some (number_of nets n))
    new_named p n at = elim (get_place old.names name p n at) [
      | inl had ↦
          let h = keyed.named p n had in
          (h.0, get_front old.bits (bit ∷ []) p (number_of nets n) h.1)
      | inr last ↦ (
        subst (λ (m : BitName). HasBit nets m) last.1 there,
        ap (λ (i : ℕ). slice_get (old.bits ++ bit ∷ []) i) (last.0 ∙ keyed.size) ∙ get_end old.bits bit
            ∙ ap (λ (x : ℕ). Some x) (number ∙ ap (λ (m : BitName). number_of nets m) last.1),
      )
    ]

    new_keyed : IsKeyed nets new
    new_keyed = record {
      has = new_has;
      size =
          (let a = ap (λ (ns : List BitName). length ns) names in
          let b = ap (λ (bs : List ℕ). length bs) bits in
          let c = length-append old.names (name ∷ []) in
          let d = length-append old.bits (bit ∷ []) in
          let e = keyed.size in
          omega (arith, a, b, c, d, e));
      named = λ p n at.
          let h = new_named p n (ap (λ (ns : List BitName). slice_get ns p) (sym names) ∙ at) in
          (h.0, ap (λ (bs : List ℕ). slice_get bs p) bits ∙ h.1);
    }

    pub key_new : Added old new (just bit)
    key_new = record {
      keyed = new_keyed;
      kept = λ b h.
          (h.0, ap (λ (bs : List ℕ). slice_get bs h.0) bits ∙ get_front old.bits (bit ∷ []) h.0 b h.1);
      added = λ b is.
          let same : bit ≡ b = (Decides-eqb bit b).0 is in (
            length old.bits,
            ap (λ (bs : List ℕ). slice_get bs (length old.bits)) bits ∙ get_end old.bits bit
                ∙ ap (λ (x : ℕ). Some x) same,
          );
      only = λ b h. elim (get_place old.bits bit h.0 b (ap (λ (bs : List ℕ). slice_get bs h.0) (sym bits) ∙ h.1)) [
        | inl had ↦ inr (h.0, had)
        | inr last ↦ inl ((Decides-eqb bit b).1 last.1)
      ];
    }

  -- ---- one after the other

  pub added_none : (keys : Keys) (f : ℕ → Bool) → ((b : ℕ) → f b ≡ false) → IsKeyed nets keys → Added keys keys f
  added_none keys f none keyed = record {
    keyed = keyed;
    kept = λ b h. h;
    added = λ b is. absurd (false≢true (sym (none b) ∙ is));
    only = λ b h. inr h;
  }

  or_either : (a b : Bool) → (a || b) ≡ true → (a ≡ true) ⊎ (b ≡ true)
  or_either true b e = inl refl
  or_either false b e = inr e

  left_or : (a b : Bool) → a ≡ true → (a || b) ≡ true
  left_or true b e = refl
  left_or false b e = absurd (false≢true e)

  right_or : (a b : Bool) → b ≡ true → (a || b) ≡ true
  right_or true b e = refl
  right_or false b e = e

  pub added_both : (old mid new : Keys) (f g h : ℕ → Bool) → ((b : ℕ) → h b ≡ (f b || g b)) → Added old mid f →
      Added mid new g → Added old new h
  added_both old mid new f g h is one other = record {
    keyed = other.keyed;
    kept = λ b k. other.kept b (one.kept b k);
    added = λ b t. elim (or_either (f b) (g b) (sym (is b) ∙ t)) [
      | inl first ↦ other.kept b (one.added b first)
      | inr second ↦ other.added b second
    ];
    only = λ b k. elim (other.only b k) [
      | inl second ↦ inl (is b ∙ right_or (f b) (g b) second)
      | inr had ↦ elim (one.only b had) [
        | inl first ↦ inl (is b ∙ left_or (f b) (g b) first)
        | inr before ↦ inr before
      ]
    ];
  }

  pub added_same : (old new : Keys) (f g : ℕ → Bool) → ((b : ℕ) → f b ≡ g b) → Added old new f → Added old new g
  added_same old new f g is one = record {
    keyed = one.keyed;
    kept = one.kept;
    added = λ b t. one.added b (is b ∙ t);
    only = λ b k. elim (one.only b k) [
      | inl t ↦ inl (sym (is b) ∙ t)
      | inr had ↦ inr had
    ];
  }

  -- ---- the bits of a target

  position_more : (c b : ℕ) (t : Bool) (n : ℕ) (o : Option ℕ) → is_some (cond t (Some n) o) ≡ (is_some o || t)
  position_more c b true n None = refl
  position_more c b true n (Some i) = refl
  position_more c b false n None = refl
  position_more c b false n (Some i) = refl

  pub stands_more : (f : ℕ → Option ℕ) (n c : ℕ) → f n ≡ Some c → (b : ℕ) →
      stands f (suc n) b ≡ (stands f n b || just c b)
  stands_more f n c is b =
      ap (λ (o : Option ℕ). is_some (cond (is_bit b o) (Some n) (place_below n f b))) is
      ∙ position_more c b (c == b) n (place_below n f b)

  pub bits_more : (old mid new : Keys) (bits : List BitName) (f : ℕ → Option ℕ) (n c : ℕ) (d : BitName)
      → n < length bits → c ≡ number_of nets (slice_index_or bits n d) → AreNumbered nets bits f
      → Added old mid (stands f n) → Added mid new (just c) → Added old new (stands f (suc n))
  bits_more old mid new bits f n c d inside number numbered so_far one =
      let here : f n ≡ Some c =
      sym (numbered n)
      ∙ ap (λ (o : Option BitName). if_there None (λ (b : BitName). Some (number_of nets b)) o)
      (slice_get-get_or bits n d inside)
      ∙ ap (λ (x : ℕ). Some x) (sym number) in
      added_both old mid new (stands f n) (just c) (stands f (suc n)) (stands_more f n c here) so_far one

  pub in_row : (starts : List ℕ) (bits : List BitName) → AreStarts nets starts → All (HasBit nets) bits →
      bits_of nets < 2 ^ 32 → AreInRow starts bits
  in_row starts bits are there few k d inside =
      let b = slice_index_or bits k d in
      let h : HasBit nets b = there k d inside in
      let lies = bit_below nets b.net b.bit h.0 h.1 in
      let same = numbers_agree nets starts are b h in
      let long = are.size in
      let net = h.0 in
      (omega (arith, net, long), omega (arith, lies, same, few))

  -- ---- a list of statements

  module _ (names : List Name) (from : ℕ) where
    abbrev Among : StmtTree → StmtTree → Keys → Keys → Type 0
    Among all rest old now = IsAmong nets names from all rest old now

    pub none_among : (all rest : StmtTree) (old : Keys) → rest ≡ all → IsStmtReady nets names from all →
        IsKeyed nets old → Among all rest old old
    none_among all rest old is ready keyed =
        subst (λ (r : StmtTree). Among all r old old) (sym is) (record {
          ready = ready;
          keyed = keyed;
          goes = λ new h. h;
        })

    pub one_among : (all rest x more : StmtTree) (old now new : Keys) → rest ≡ sequence x more → Among all rest old now →
        Added now new (sets (scope_of nets names from) x) → Among all more old new
    one_among all rest x more old now new is h one =
        let s = scope_of nets names from in
        let this : Among all (sequence x more) old now = subst (λ (r : StmtTree). Among all r old now) is h in
        record {
          ready = this.ready.1;
          keyed = one.keyed;
          goes = λ last later.
              this.goes last
              (added_both now new last (sets s x) (sets s more) (sets s (sequence x more)) (λ b. refl) one later);
        }

    pub all_among : (all rest : StmtTree) (old now : Keys) → rest ≡ idle → Among all rest old now →
        Added old now (sets (scope_of nets names from) all)
    all_among all rest old now is h =
        let s = scope_of nets names from in
        h.goes now
        (subst (λ (r : StmtTree). Added now now (sets s r)) (sym is) (added_none now (sets s idle) (λ b. refl) h.keyed))

  -- from no bits
  pub from_none : (s : Scope) (body : StmtTree) (old new : Keys) → old.bits ≡ [] → Added old new (sets s body) →
      IsCollected nets s body new
  from_none s body old new none added = record {
    keyed = added.keyed;
    all = added.added;
    only = λ b k. elim (added.only b k) [
      | inl set ↦ set
      | inr had ↦ absurd (none-some b (ap (λ (bs : List ℕ). slice_get bs had.0) (sym none) ∙ had.1))
    ];
  }

  pub none_keyed : (keys : Keys) → keys.bits ≡ [] → keys.names ≡ [] → ((b : ℕ) → place_at keys.places b ≡ None) →
      IsKeyed nets keys
  none_keyed keys bits names places = record {
    has = record {
      listed = λ b p at. absurd (none-some p (sym (places b) ∙ at));
      placed = λ b p at. absurd (none-some b (ap (λ (bs : List ℕ). slice_get bs p) (sym bits) ∙ at));
    };
    size = (ap (λ (ns : List BitName). length ns) names ∙ ap (λ (bs : List ℕ). length bs) (sym bits));
    named = λ p n at. absurd (none-some n (ap (λ (ns : List BitName). slice_get ns p) (sym names) ∙ at));
  }
