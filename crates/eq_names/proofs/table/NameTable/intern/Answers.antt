use Rattle.std.proofs.Common.{◌≡◌, ℕ, List, Some, map, refl, sym, ap, ◌∙◌, ◌≤◌, Bool, true, false, cond, length, subst, arith}
use Rattle.std.specs.Prelude.{Vec}
use Rattle.std.specs.Str.{bytes_eq}
use Rattle.std.specs.List.{position_or_len}
use Rattle.std.specs.declared.alloc.Global.{Global}
use Rattle.eq_names.specs.Tables.{number_of, with_name, AreDistinct}
use Rattle.std.proofs.lemmas.List.{length-map}
use Rattle.eq_names.proofs.Distinct.{distinct_with}
use Rattle.eq_names.proofs.Places.{with_known, with_map, number_with, number_map_place}
use Rattle.eq_names.proofs.table.NameTable.intern.Goals as goal

pub returns-in-Some-clause-names : goal.returns-in-Some-clause-names
returns-in-Some-clause-names c =
    sym (with_known c.args.self.now c.args.name.now c.in-Some.id
    (ap (λ (t : List ℕ). number_of c.args.self.now t) (sym c.bytes.ensures.bytes) ∙ sym c.find.ensures ∙ c.in-Some.is))

pub returns-clause-names : goal.returns-clause-names
returns-clause-names c =
    let text_of : Vec ℕ Global → List ℕ = λ n. n.items in
    let copied : c.in_ok-copy.copy.items ≡ c.args.name.now = c.in_ok-copy.ensures.items ∙ c.bytes-2.ensures.bytes in
    ap (λ (keys : List (Vec ℕ Global)). map text_of keys) c.in_ok-id.ensures.keys
    ∙ with_map text_of c.in_ok-copy.copy.items c.self.inside.names.keys c.in_ok-copy.copy refl
    ∙ ap (λ (names : List (List ℕ)). with_name names c.in_ok-copy.copy.items) c.self.view_is
    ∙ ap (λ (t : List ℕ). with_name c.args.self.now t) copied

pub returns-clause-number : goal.returns-clause-number
returns-clause-number c =
    let text_of : Vec ℕ Global → List ℕ = λ n. n.items in
    let copied : c.in_ok-copy.copy.items ≡ c.args.name.now = c.in_ok-copy.ensures.items ∙ c.bytes-2.ensures.bytes in
    let place = c.in_ok-id.ensures.index ∙ number_map_place text_of c.self.inside.names.keys c.in_ok-copy.copy.items
    ∙ ap (λ (names : List (List ℕ)). position_or_len (λ n. bytes_eq c.in_ok-copy.copy.items n) names) c.self.view_is
    ∙ ap (λ (t : List ℕ). position_or_len (λ n. bytes_eq t n) c.args.self.now) copied in
    ap (λ (names : List (List ℕ)). number_of names c.args.name.now) (returns-clause-names c)
    ∙ number_with c.args.self.now c.args.name.now
    ∙ ap (λ (n : ℕ). Some n) (sym place)

one_at_most : (b : Bool) → cond {A = ℕ} b 1 0 ≤ 1
one_at_most true = omega arith
one_at_most false = omega arith

pub invariant_of-self-2 : goal.invariant_of-self-2
invariant_of-self-2 c =
    let text_of : Vec ℕ Global → List ℕ = λ n. n.items in
    let copied : c.in_ok-copy.copy.items ≡ c.args.name.now = c.in_ok-copy.ensures.items ∙ c.bytes-2.ensures.bytes in
    let names = ap (λ (keys : List (Vec ℕ Global)). map text_of keys) c.in_ok-id.ensures.keys
    ∙ with_map text_of c.in_ok-copy.copy.items c.self.inside.names.keys c.in_ok-copy.copy refl
    ∙ ap (λ (names : List (List ℕ)). with_name names c.in_ok-copy.copy.items) c.self.view_is
    ∙ ap (λ (t : List ℕ). with_name c.args.self.now t) copied in
    let before = subst (λ (l : List (List ℕ)). AreDistinct l) c.self.view_is c.self.invariant.1 in
    let grown = c.in_ok-id.ensures.len in
    let most = one_at_most c.in_ok-id.field-0-1 in
    let size = ap (λ (l : List (List ℕ)). length l) c.self.view_is in
    let same = length-map c.self.inside.names.keys text_of in (
      omega (arith, grown, most, size, same, c.requires),
      subst (λ (l : List (List ℕ)). AreDistinct l) (sym names) (distinct_with c.args.self.now c.args.name.now before),
    )
