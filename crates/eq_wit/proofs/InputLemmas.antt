-- What the line of an input says, and what is wrong with it.
use Rattle.std.proofs.Common.{◌≡◌, ◌≢◌, ℕ, ◌+◌, ◌<◌, suc, Bool, true, false, List, [], ◌∷◌, Some, Result, Ok, Err, length, slice_get, get_or, refl, sym, ap, ◌∙◌, subst, arith, inl, inr}
use Rattle.std.specs.Prelude.{MatchResult, codes, slice_index_or}
use Rattle.std.specs.Fmt.{decimal}
use Rattle.std.proofs.lemmas.Fmt.{decimal_injective}
use Rattle.std.proofs.lemmas.Option.{slice_get_within}
use Rattle.eq_names.specs.Name.{IsName}
use Rattle.eq_bits.specs.declared.node.Node.{Node}
use Rattle.eq_bits.specs.declared.node.Node.TheVariants.{Input}
use Rattle.eq_bits.specs.Node.{NamesInput}
use Rattle.eq_wit.specs.declared.state.Draft.{Draft}
use Rattle.eq_wit.specs.declared.state.State.{State}
use Rattle.eq_wit.specs.declared.state.State.TheVariants as state
use Rattle.eq_wit.specs.declared.state.Stop.{Stop}
use Rattle.eq_wit.specs.declared.state.Stop.TheVariants as stop
use Rattle.eq_wit.specs.declared.types.WitKind.{WitKind}
use Rattle.eq_wit.specs.declared.types.WitKind.TheVariants as kind
use Rattle.eq_wit.specs.Line.{HasForm, Line}
use Rattle.eq_wit.specs.Texts.{node_line}
use Rattle.eq_wit.specs.inner.Items.{IsItem, IsNoItem, IsReady, IsWrongInput, ItemKind, ReadsLine}
use Rattle.eq_wit.specs.inner.Judging.{IsFaulty, KindAt, StopsBy, words_of}
use Rattle.eq_wit.specs.inner.Reading.{MayStand, marked, with_node}
use Rattle.eq_wit.specs.inner.Standing.{Stands}
use Rattle.eq_wit.proofs.ItemLemmas.{own_form}
use Rattle.eq_wit.proofs.Lists.{at_index}
use Rattle.eq_wit.proofs.NodeKeys.{node_input}
use Rattle.eq_wit.proofs.NodeLemmas.{numerals}

abbrev at : Draft → List Bool → ℕ → State
at d seen left = state.Nodes d seen (suc left)

abbrev total_of : Draft → ℕ → ℕ
total_of d left = length d.nodes + suc left

pub ready : (d : Draft) (seen : List Bool) (left : ℕ) → Stands (at d seen left) → IsReady d (total_of d left)
ready d seen left h =
    let few = h.0.few in
    record { within = omega arith; few = h.1.few; few_inputs = omega (arith, few) }

word_of : {xs ys : List (List ℕ)} (k : ℕ) → xs ≡ ys → get_or xs k [] ≡ get_or ys k []
word_of k e = ap (λ (zs : List (List ℕ)). get_or zs k []) e

-- what is wrong with a node that is no input is wrong here
pub gate_fault : (d : Draft) (seen : List Bool) (left : ℕ) (ws : List (List ℕ)) (kind' : WitKind) →
    ((u : List ℕ) → ws ≢ codes "input" ∷ u ∷ []) → IsNoItem node_line (MayStand d (total_of d left)) ws kind' →
    IsFaulty (at d seen left) ws kind'
gate_fault d seen left ws kind' other h = record {
  refused = λ l next f e. h.refused f.0 f.1 (ap words_of (sym f.2) ∙ e);
  kind_is = by_kind d seen left ws kind' other h.kind_is;
} where
  by_kind : (d : Draft) (seen : List Bool) (left : ℕ) (ws : List (List ℕ)) (kind' : WitKind) →
      ((u : List ℕ) → ws ≢ codes "input" ∷ u ∷ []) → ItemKind node_line (MayStand d (total_of d left)) ws kind' →
      KindAt (at d seen left) ws kind'
  by_kind d seen left ws kind.Head other h = h
  by_kind d seen left ws kind.End other h = absurd h
  by_kind d seen left ws kind.Number other h = (
    (node_line h.0, state.Nodes (with_node d h.0) (marked h.0 seen) left, (h.0, h.1, refl, refl), h.2),
    λ again. other (decimal again.0) again.3,
  )
  by_kind d seen left ws kind.Word other h = (
    λ t e. cc (e),
    λ form. absurd (h form.2.0 form.2.1 (subst (λ (l : Line). HasForm l ws) form.2.2 form.3)),
  )

pub gate_result : (d : Draft) (seen : List Bool) (left : ℕ) (ws : List (List ℕ)) (result : Result Node Stop) →
    ((u : List ℕ) → ws ≢ codes "input" ∷ u ∷ []) → ReadsLine node_line (MayStand d (total_of d left)) ws result →
    MatchResult result (IsItem node_line (MayStand d (total_of d left)) ws) (StopsBy (IsFaulty (at d seen left) ws))
gate_result d seen left ws (Ok node) other h = h
gate_result d seen left ws (Err stop.Memory) other h = tt
gate_result d seen left ws (Err (stop.Fault kind')) other h = gate_fault d seen left ws kind' other h

-- ---- inputs

-- a line `input` and a word that may stand
which : (d : Draft) (seen : List Bool) (left : ℕ) (node : Node) (word : List ℕ) → MayStand d (total_of d left) node →
    HasForm (node_line node) (codes "input" ∷ word ∷ []) → (i : ℕ) × (node ≡ Input i) × (i < length d.inputs) × IsName word
which d seen left node word fits form =
    let is = node_input node (word ∷ []) form in
    let own : HasForm (node_line (Input is.0)) (codes "input" ∷ word ∷ []) =
    subst (λ (x : Node). HasForm (node_line x) (codes "input" ∷ word ∷ [])) is.1 form in
    (is.0, is.1, subst (NamesInput (length d.inputs)) is.1 fits.input, own.1.0)

-- one with its own word
which_number : (d : Draft) (seen : List Bool) (left : ℕ) (ws : List (List ℕ)) (word : List ℕ) (node : Node) →
    Stands (at d seen left) → ws ≡ codes "input" ∷ word ∷ [] → MayStand d (total_of d left) node →
    words_of (node_line node) ≡ ws → (i : ℕ) × (node ≡ Input i) × (i < length d.inputs) × (word ≡ decimal i)
which_number d seen left ws word node h is fits e =
    let form : HasForm (node_line node) (codes "input" ∷ word ∷ []) = subst (HasForm (node_line node)) (e ∙ is)
    (own_form (node_line node) (numerals d (total_of d left) (ready d seen left h) node fits)) in
    let w = which d seen left node word fits form in
    let words : words_of (node_line (Input w.0)) ≡ codes "input" ∷ word ∷ [] =
    ap (λ (x : Node). words_of (node_line x)) (sym w.1) ∙ e ∙ is in
    (w.0, w.1, w.2, sym (word_of 1 words))

pub right_input : (d : Draft) (seen : List Bool) (left i : ℕ) (ws : List (List ℕ)) (word : List ℕ) → Stands (at d seen left) →
    ws ≡ codes "input" ∷ word ∷ [] → word ≡ decimal i → i < length d.inputs → slice_get seen i ≡ Some false →
    IsItem node_line (MayStand d (total_of d left)) ws (Input i)
right_input d seen left i ws word h is e less unseen = record {
  fits = record {
    operands = tt;
    input = less;
    only = λ m j same there.
        let equal : i ≡ j = cc (same) in
        absurd (cc (sym unseen ∙ h.2.marked i m (there ∙ ap (λ (k : ℕ). Some (Input k)) (sym equal))));
  };
  words = sym (is ∙ ap (λ (x : List ℕ). codes "input" ∷ x ∷ []) e);
}

pub second_input : (d : Draft) (seen : List Bool) (left i : ℕ) (ws : List (List ℕ)) (word : List ℕ) → Stands (at d seen left) →
    ws ≡ codes "input" ∷ word ∷ [] → word ≡ decimal i → i < length d.inputs → slice_get seen i ≡ Some true →
    IsFaulty (at d seen left) ws kind.Word
second_input d seen left i ws word h is e less marked' =
    let found = h.2.found i marked' in
    let inputs = h.0.few in
    record {
      refused = λ l next f same.
          let w = which_number d seen left ws word f.0 h is f.1 (ap words_of (sym f.2) ∙ same) in
          let equal : i ≡ w.0 = decimal_injective i w.0 (omega (arith, less, inputs)) (omega (arith, w.2, inputs)) (sym e ∙ w.3) in
          f.1.only found.0 i (w.1 ∙ ap Input (sym equal)) found.1;
      kind_is = (
        λ t g. cc (g),
        λ form. (i, found.0, found.1, is ∙ ap (λ (x : List ℕ). codes "input" ∷ x ∷ []) e),
      );
    }

pub no_such_input : (d : Draft) (seen : List Bool) (left : ℕ) (ws : List (List ℕ)) (word : List ℕ) (s : Stop) →
    Stands (at d seen left) → ws ≡ codes "input" ∷ word ∷ [] → ((i : ℕ) → i < length d.inputs → word ≢ decimal i) →
    IsWrongInput seen word s → StopsBy (IsFaulty (at d seen left) ws) s
no_such_input d seen left ws word stop.Memory h is none wrong = tt
no_such_input d seen left ws word (stop.Fault kind.Head) h is none wrong = absurd wrong
no_such_input d seen left ws word (stop.Fault kind.End) h is none wrong = absurd wrong
no_such_input d seen left ws word (stop.Fault kind.Number) h is none wrong =
    let i = wrong.1.0 in
    let less : i < length d.inputs = omega (arith, slice_get_within seen i false wrong.1.1, h.2.long) in
    let fits : MayStand d (total_of d left) (Input i) = record {
      operands = tt;
      input = less;
      only = λ m j same there.
          let equal : i ≡ j = cc (same) in
          absurd (cc (sym wrong.1.1 ∙ h.2.marked i m (there ∙ ap (λ (k : ℕ). Some (Input k)) (sym equal))));
    } in
    record {
      refused = λ l next f same.
          let w = which_number d seen left ws word f.0 h is f.1 (ap words_of (sym f.2) ∙ same) in none w.0 w.2 w.3;
      kind_is = (
        (
          node_line (Input i),
          state.Nodes (with_node d (Input i)) (marked (Input i) seen) left,
          (Input i, fits, refl, refl),
          subst (HasForm (node_line (Input i))) (sym is) (refl, (wrong.0, tt)),
        ),
        λ again. none again.0 (h.1.there again.1 (Input again.0) again.2) (word_of 1 (sym is ∙ again.3)),
      );
    }
no_such_input d seen left ws word (stop.Fault kind.Word) h is none wrong = record {
  refused = λ l next f same.
      let w = which_number d seen left ws word f.0 h is f.1 (ap words_of (sym f.2) ∙ same) in none w.0 w.2 w.3;
  kind_is = (
    λ t g. cc (g),
    λ form.
        let f = form.2 in
        let w = which d seen left f.0 word f.1
        (subst (HasForm (node_line f.0)) is (subst (λ (l : Line). HasForm l ws) f.2 form.3)) in
        elim wrong [
          | inl full ↦
              let found = h.2.found w.0 (full w.0 (omega (arith, w.2, h.2.long))) in
              absurd (f.1.only found.0 w.0 w.1 found.1)
          | inr no_name ↦ absurd (no_name w.3)
        ],
  );
}

-- a mark that was looked at
pub mark_at : (seen xs : List Bool) (i : ℕ) (b : Bool) → xs ≡ seen → i < length seen → slice_index_or xs i false ≡ b →
    slice_get seen i ≡ Some b
mark_at seen xs i b same less e = at_index seen i false less
    ∙ ap (λ (x : Bool). Some x) (ap (λ (ys : List Bool). slice_index_or ys i false) (sym same) ∙ e)

pub gate_read : (d : Draft) (seen : List Bool) (left total : ℕ) (ws : List (List ℕ)) (result : Result Node Stop) →
    total ≡ total_of d left → ((u : List ℕ) → ws ≢ codes "input" ∷ u ∷ []) →
    ReadsLine node_line (MayStand d total) ws result →
    MatchResult result (IsItem node_line (MayStand d (total_of d left)) ws) (StopsBy (IsFaulty (at d seen left) ws))
gate_read d seen left total ws result same other h = gate_result d seen left ws result other
    (subst (λ (n : ℕ). ReadsLine node_line (MayStand d n) ws result) same h)
