-- The net to which a pattern and a template lead.
use Rattle.std.proofs.Common.{◌≡◌, ℕ, ◌<◌, Bool, true, false, List, Option, Some, None, length, slice_index_or, refl, sym, ap, subst, ◌∙◌}
use Rattle.std.specs.Prelude.{count_by, IfOk, Result, Ok, Err}
use Rattle.eq_names.specs.declared.span.Span.{Span}
use Rattle.eq_names.specs.Patterns.{AreCaptures, HasWilds}
use Rattle.eq_names.specs.Pieces.{is_wild}
use Rattle.eq_names.specs.Tables.{number_of}
use Rattle.eq_names.specs.Templates.{IsFilled, IsTemplate}
use Rattle.eq_net.specs.Net.{Parts, name_at}
use Rattle.eq_match.specs.Fitting.{FitsPattern}
use Rattle.eq_match.specs.NetPairs.{IsFilling, LeadsFrom}
use Rattle.eq_match.specs.Seen.{HaveOneWidth}
use Rattle.eq_match.specs.inner.Finding.{FindsFilling}
use Rattle.eq_match.specs.inner.Indexing.{IsIndex}

-- a template that fits its pattern is one for as many captures as there are
pub fitting : (pattern template name : List ℕ) (spans : List Span) → AreCaptures pattern name spans →
    ((wilds : ℕ) → HasWilds pattern wilds → length spans ≡ wilds) → FitsPattern pattern template →
    IsTemplate template (length spans)
fitting pattern template name spans captured count fits =
    let wilds = count_by is_wild captured.pieces in
    let has : HasWilds pattern wilds = record {
      pieces = captured.pieces;
      are_pieces = captured.are_pieces;
      wilds_are =
          refl;
    } in
    let P : ℕ → Type 0 = λ n. IsTemplate template n in
    subst P (sym (count wilds has)) (fits wilds has)

module _ (one_capture : (pattern name : List ℕ) (s t : List Span) → AreCaptures pattern name s → AreCaptures pattern
    name t → s ≡ t)
    (one_filling : (template name : List ℕ) (spans : List Span) (s t : List ℕ) → IsFilled template name spans s →
    IsFilled template name spans t → s ≡ t) (pattern template name : List ℕ) (names : List (List ℕ)) where
  -- there is one text to which a name is filled
  pub finds : (spans : List Span) (found : Option ℕ) → AreCaptures pattern name spans → (text : List ℕ) →
      IsFilled template name spans text → found ≡ number_of names text → FindsFilling pattern template name names found
  finds spans found captured text filled is = record {
    only = λ other filling.
        let P : List Span → Type 0 = λ s. IsFilled template name s other in
        let again = subst P (one_capture pattern name filling.spans spans filling.captured captured) filling.filled in
        is ∙ ap (λ (t : List ℕ). number_of names t) (one_filling template name spans text other filled again);
    some = λ h e. (text, record { spans = spans; captured = captured; filled = filled });
  }

  pub finds_all : {E : Type 0} (spans : List Span) (r : Result (Option ℕ) E) → AreCaptures pattern name spans →
      IfOk r (λ found. (text : List ℕ) × IsFilled template name spans text × (found ≡ number_of names text)) →
      IfOk r (FindsFilling pattern template name names)
  finds_all spans (Ok found) captured h = finds spans found captured h.0 h.1 h.2
  finds_all spans (Err e) captured h = tt

module _ (n m : Parts) (pattern template : List ℕ) (n_names m_names : List (List ℕ)) (n_seen m_seen : List Bool)
    (here : IsIndex n n_names n_seen) (there : IsIndex m m_names m_seen) (k : ℕ) (lk : k < length n.nets)
    (seen : slice_index_or n_seen k false ≡ true) (found : Option ℕ)
    (finds_it : FindsFilling pattern template (name_at n.nets k) m_names found) where
  pub led_there : (h : ℕ) → found ≡ Some h → h < length m.nets
  led_there h is = (let text = finds_it.some h is in there.there text.0 h (sym (finds_it.only text.0 text.1) ∙ is))

  pub leads : (h : ℕ) → found ≡ Some h → slice_index_or m_seen h false ≡ true →
      HaveOneWidth n k m h → LeadsFrom n m pattern template k h
  leads h is seen_there widths =
      let lh = led_there h is in
      let text = finds_it.some h is in
      let named = there.named text.0 h (sym (finds_it.only text.0 text.1) ∙ is) in
      let P : List ℕ → Type 0 = λ t. IsFilling pattern template (name_at n.nets k) t in
      record {
        here = (here.tells.tells k lk).0 seen;
        there = (there.tells.tells h lh).0 seen_there;
        named = subst P (sym named) text.1;
        widths = widths;
      }

  pub led : (h : ℕ) → LeadsFrom n m pattern template k h → found ≡ Some h
  led h lead = finds_it.only (name_at m.nets h) lead.named ∙ there.found h lead.there.there

  pub led_none : found ≡ None → (h : ℕ) → ¬ LeadsFrom n m pattern template k h
  led_none none h lead = (let two : ◌≡◌ {A = Option ℕ} (Some h) None = sym (led h lead) ∙ none in cc)

  pub led_other : (h : ℕ) → found ≡ Some h → ((slice_index_or m_seen h false ≡ true) → HaveOneWidth n k m h → ⊥) →
      (i : ℕ) → ¬ LeadsFrom n m pattern template k i
  led_other h is not i lead =
      let two : ◌≡◌ {A = Option ℕ} (Some i) (Some h) = sym (led i lead) ∙ is in
      let same : i ≡ h = cc in
      let S : ℕ → Type 0 = λ j. slice_index_or m_seen j false ≡ true in
      let W : ℕ → Type 0 = λ j. HaveOneWidth n k m j in
      not (subst S same ((there.tells.tells i lead.there.there).1 lead.there)) (subst W same lead.widths)
