-- Where the reading stands behind the words of a line.
use Rattle.std.proofs.Common.{◌≡◌, ℕ, ◌+◌, ◌-◌, ◌<◌, zero, suc, Bool, List, [], ◌∷◌, ◌++◌, length, refl, sym, ap, ap₂, ◌∙◌, subst, arith}
use Rattle.eq_names.specs.Name.{IsName}
use Rattle.eq_bits.specs.declared.node.Node.{Node}
use Rattle.eq_bits.specs.declared.part.Output.{Output}
use Rattle.eq_bits.specs.Node.{NamesInput}
use Rattle.eq_wit.specs.declared.state.Draft.{Draft}
use Rattle.eq_wit.specs.declared.state.State.{State}
use Rattle.eq_wit.specs.declared.state.State.TheVariants as state
use Rattle.eq_wit.specs.declared.state.Stop.{Stop}
use Rattle.eq_wit.specs.declared.state.Stop.TheVariants as stop
use Rattle.eq_wit.specs.declared.state.Open.{Open}
use Rattle.eq_wit.specs.declared.state.Tally.{Tally}
use Rattle.eq_induct.specs.declared.types.Asked.{Asked}
use Rattle.eq_induct.specs.declared.types.End.{End}
use Rattle.eq_wit.specs.Faults.{IsShortEnd}
use Rattle.eq_wit.specs.declared.types.Head.{Head}
use Rattle.eq_wit.specs.declared.types.WitKind.{WitKind}
use Rattle.eq_wit.specs.declared.types.WitKind.TheVariants as kind
use Rattle.eq_wit.specs.Line.{HasForm, Line}
use Rattle.eq_wit.specs.Texts.{end_line, head_line, name_line, node_line, output_line}
use Rattle.eq_wit.specs.inner.Items.{headed_line, IsItem, IsNoItem, IsOutput}
use Rattle.eq_wit.specs.inner.Judging.{IsFaulty, NamesAgain, StopsBy, TakesLine, words_of}
use Rattle.eq_wit.specs.inner.Standing.{Stands}
use Rattle.eq_wit.specs.inner.Reading.{IsHead, MayComeQueries, MayComeTries, opened, with_left, with_try, MayComeNext, MayComeInputs, MayComeOutputs, MayStand, marked, with_node, with_output}

module _ {X : Type 0} (s : State) (line : X → Line) (Fits : X → Type 0) (make : X → State) (ws : List (List ℕ))
    (go : (x : X) → Fits x → MayComeNext s (line x) (make x)) where
  pub item_taken : (x : X) → IsItem line Fits ws x → TakesLine s ws (make x)
  item_taken x h = (line x, go x h.fits, h.words)

  pub no_item_here : (kind' : WitKind) → ((l : Line) (next : State) → MayComeNext s l next → (x : X) × Fits x × (l ≡ line x)) →
      ((t : Tally) → s ≡ state.Ended t → ⊥) → ((x : X) → Fits x → HasForm (line x) ws → ¬ NamesAgain s ws) → IsNoItem line Fits ws kind' → IsFaulty s ws kind'
  no_item_here kind.Head back going first h = absurd h.kind_is
  no_item_here kind.End back going first h = absurd h.kind_is
  no_item_here kind.Number back going first h = record {
    refused = λ l next f e. let x = back l next f in h.refused x.0 x.1 (ap words_of (sym x.2) ∙ e);
    kind_is = ((line h.kind_is.0, make h.kind_is.0, go h.kind_is.0 h.kind_is.1, h.kind_is.2), first h.kind_is.0 h.kind_is.1 h.kind_is.2);
  }
  no_item_here kind.Word back going first h = record {
    refused = λ l next f e. let x = back l next f in h.refused x.0 x.1 (ap words_of (sym x.2) ∙ e);
    kind_is = (
      going,
      λ form.
          let x = back form.0 form.1 form.2 in
          absurd (h.kind_is x.0 x.1 (subst (λ (l : Line). HasForm l ws) x.2 form.3)),
    );
  }

  pub stopped_here : (stop' : Stop) → ((l : Line) (next : State) → MayComeNext s l next → (x : X) × Fits x × (l ≡ line x)) →
      ((t : Tally) → s ≡ state.Ended t → ⊥) → ((x : X) → Fits x → HasForm (line x) ws → ¬ NamesAgain s ws) →
      StopsBy (IsNoItem line Fits ws) stop' →
      StopsBy (IsFaulty s ws) stop'
  stopped_here stop.Memory back going first h = tt
  stopped_here (stop.Fault kind') back going first h = no_item_here kind' back going first h

pub follows_input : (d : Draft) (left : ℕ) (name : List ℕ) (inputs : List (List ℕ)) → 0 < left → IsName name →
    inputs ≡ d.inputs ++ name ∷ [] → MayComeInputs d left (name_line name)
    (state.Inputs (record { name = d.name; inputs = inputs; nodes = d.nodes; outputs = d.outputs }) (left - 1))
follows_input d zero name inputs some h e = absurd (omega arith)
follows_input d (suc left) name inputs some h e =
    let one : suc left - 1 ≡ left = omega arith in (
      name,
      h,
      refl,
      ap₂ (λ (xs : List (List ℕ)) (n : ℕ).
          let x : Draft = record { name = d.name; inputs = xs; nodes = d.nodes; outputs = d.outputs } in state.Inputs x n) e one,
    )

pub follows_output : (d : Draft) (left : ℕ) (o : Output) (outputs : List Output) → 0 < left →
    IsOutput (length d.nodes) o → outputs ≡ d.outputs ++ o ∷ [] → MayComeOutputs d left (output_line o)
    (state.Outputs (record { name = d.name; inputs = d.inputs; nodes = d.nodes; outputs = outputs }) (left - 1))
follows_output d zero o outputs some h e = absurd (omega arith)
follows_output d (suc left) o outputs some h e =
    let one : suc left - 1 ≡ left = omega arith in (
      o,
      h,
      refl,
      ap₂ (λ (xs : List Output) (n : ℕ).
          let x : Draft = record { name = d.name; inputs = d.inputs; nodes = d.nodes; outputs = xs } in state.Outputs x n) e one,
    )

pub stopped_output : (d : Draft) (left n : ℕ) (ws : List (List ℕ)) (s : Stop) → 0 < left → n ≡ length d.nodes →
    StopsBy (IsNoItem output_line (IsOutput n) ws) s → StopsBy (IsFaulty (state.Outputs d left) ws) s
stopped_output d zero n ws s some e h = absurd (omega arith)
stopped_output d (suc left) n ws s some e h =
    stopped_here (state.Outputs d (suc left)) output_line (IsOutput (length d.nodes))
    (λ o. state.Outputs (with_output d o) left) ws (λ o fits. (o, fits, refl, refl)) s (λ l next f. (f.0, f.1, f.2))
    (λ t g. cc (g)) (λ x fits form again. again) (subst (λ (m : ℕ). StopsBy (IsNoItem output_line (IsOutput m) ws) s) e h)

pub stands_by : (d : Draft) (seen : List Bool) (left n : ℕ) → left ≡ suc n → Stands (state.Nodes d seen left) →
    Stands (state.Nodes d seen (suc n))
stands_by d seen left n e h = subst (λ (m : ℕ). Stands (state.Nodes d seen m)) e h

pub names_mark : (d : Draft) (seen : List Bool) (left total : ℕ) (ws : List (List ℕ)) (node : Node) →
    Stands (state.Nodes d seen left) → IsItem node_line (MayStand d total) ws node → NamesInput (length seen) node
names_mark d seen left total ws node h is =
    subst (λ (n : ℕ). NamesInput n node) (sym h.2.long) is.fits.input

pub takes_node : (d : Draft) (seen : List Bool) (left n : ℕ) (ws : List (List ℕ)) (node : Node) (next : State) →
    left ≡ suc n → IsItem node_line (MayStand d (length d.nodes + suc n)) ws node →
    next ≡ state.Nodes (with_node d node) (marked node seen) n → TakesLine (state.Nodes d seen left) ws next
takes_node d seen left n ws node next e is same =
    subst (λ (m : ℕ). TakesLine (state.Nodes d seen m) ws next) (sym e)
    (node_line node, (node, is.fits, refl, same), is.words)

pub stopped_node : (d : Draft) (seen : List Bool) (left n : ℕ) (ws : List (List ℕ)) (s : Stop) → left ≡ suc n →
    StopsBy (IsFaulty (state.Nodes d seen (suc n)) ws) s → StopsBy (IsFaulty (state.Nodes d seen left) ws) s
stopped_node d seen left n ws s e h =
    subst (λ (m : ℕ). StopsBy (IsFaulty (state.Nodes d seen m) ws) s) (sym e) h

-- ---- tries

pub follows_head : (t : Tally) (left : ℕ) (h : Head × ℕ) (asked : List Asked) → 0 < left → t.left ≡ left →
    IsHead t.part h.0 h.1 → asked ≡ [] → MayComeTries t t.left (head_line h.0 h.1)
    (state.Queries (with_left t (left - 1)) (record { head = h.0; asked = asked; left = h.1 }))
follows_head t zero h asked some e is none = absurd (omega arith)
follows_head t (suc left) h asked some e is none =
    let one : suc left - 1 ≡ left = omega arith in
    subst (λ (n : ℕ). MayComeTries t n (head_line h.0 h.1)
    (state.Queries (with_left t (suc left - 1)) (record { head = h.0; asked = asked; left = h.1 }))) (sym e) (
      h,
      is,
      refl,
      ap₂ (λ (n : ℕ) (xs : List Asked).
          let o : Open = record { head = h.0; asked = xs; left = h.1 } in state.Queries (with_left t n) o) one none,
    )

pub stopped_head : (t : Tally) (left : ℕ) (ws : List (List ℕ)) (s : Stop) → 0 < left → t.left ≡ left →
    StopsBy (IsNoItem headed_line (λ h. IsHead t.part h.0 h.1) ws) s → StopsBy (IsFaulty (state.Tries t) ws) s
stopped_head t zero ws s some e h = absurd (omega arith)
stopped_head t (suc left) ws s some e h =
    stopped_here (state.Tries t) headed_line (λ h. IsHead t.part h.0 h.1)
    (λ h. state.Queries (with_left t left) (opened h.0 h.1)) ws
    (λ x fits. subst (λ (n : ℕ). MayComeTries t n (headed_line x) (state.Queries (with_left t left) (opened x.0 x.1))) (sym e)
    (x, fits, refl, refl)) s
    (λ l next f. let g = subst (λ (n : ℕ). MayComeTries t n l next) e f in (g.0, g.1, g.2))
    (λ u g. cc (g)) (λ x fits form again. again) h

pub follows_end : (t : Tally) (o : Open) (e : End) (after : Tally) → o.left ≡ 0 → IsShortEnd e → after ≡ with_try t o e →
    MayComeQueries t o o.left (end_line e) (state.Tries after)
follows_end t o e after none short same =
    subst (λ (n : ℕ). MayComeQueries t o n (end_line e) (state.Tries after)) (sym none)
    (e, short, refl, ap state.Tries same)

pub stopped_end : (t : Tally) (o : Open) (ws : List (List ℕ)) (s : Stop) → o.left ≡ 0 →
    StopsBy (IsNoItem end_line IsShortEnd ws) s → StopsBy (IsFaulty (state.Queries t o) ws) s
stopped_end t o ws s none h = stopped_here (state.Queries t o) end_line IsShortEnd (λ e. state.Tries (with_try t o e)) ws
    (λ e fits. follows_end t o e (with_try t o e) none fits refl) s
    (λ l next f. let g = subst (λ (n : ℕ). MayComeQueries t o n l next) none f in (g.0, g.1, g.2))
    (λ u g. cc (g)) (λ x fits form again. again) h
