-- What a reading to the end says of trees.
use Rattle.std.proofs.Common.{◌≡◌, ◌≢◌, ℕ, ◌≤◌, ◌-◌, List, [], length, Ok, Err, refl, sym, ap, subst, ◌∙◌, inl, inr, arith}
use Rattle.std.proofs.lemmas.List.{length-map}
use Rattle.eq_vlex.specs.declared.token.Token.{Token}
use Rattle.eq_vlex.specs.declared.token.TokenKind.{TokenKind}
use Rattle.eq_vparse.specs.declared.stop.ParseErr.{ParseErr}
use Rattle.eq_vparse.specs.declared.stop.ParseErr.TheVariants as error
use Rattle.eq_vparse.specs.declared.stop.Stop.{Stop}
use Rattle.eq_vparse.specs.declared.stop.Stop.TheVariants as stop
use Rattle.eq_vparse.specs.declared.tree.Source.{Source}
use Rattle.eq_vparse.specs.Limits.{Limits}
use Rattle.eq_vparse.specs.Reading.{read, stopped, kinds}
use Rattle.eq_vparse.specs.Grammar.{HasTreeWithin}
use Rattle.eq_vparse.specs.SourceReading.{source_at}
use Rattle.eq_vparse.specs.Parsing.{Refuses, Stopped, IsOrNoMemory, located}
use Rattle.eq_vparse.proofs.Agreement.{same_value, never_read}
use Rattle.eq_vparse.proofs.Sources.{source_sound, source_complete}

-- one tree within the limits
pub one_tree_within : (l : Limits) (ts : List TokenKind) (s t : Source) → HasTreeWithin l ts s → HasTreeWithin l ts t → s ≡ t
one_tree_within l ts s t h k = same_value s t [] [] (sym (source_complete l ts s h) ∙ source_complete l ts t k)

pub read_is : (l : Limits) (ts left : List TokenKind) (s : Source) → source_at l ts ≡ read s left → HasTreeWithin l ts s
read_is l ts left s e = source_sound l ts s left e

pub read_only : (l : Limits) (ts left : List TokenKind) (s t : Source) → source_at l ts ≡ read s left → HasTreeWithin l ts t → IsOrNoMemory (Ok s) (Ok t)
read_only l ts left s t e h = inl (ap (λ (x : Source). Ok x) (one_tree_within l ts s t (read_is l ts left s e) h))

no_tree : (l : Limits) (ts : List TokenKind) (e : Stop) → source_at l ts ≡ stopped e → (s : Source) → HasTreeWithin l ts s → ⊥
no_tree l ts e is s h = never_read e s [] (sym is ∙ source_complete l ts s h)

within_count : (token count left size : ℕ) → count ≡ size → token ≡ count - left → token ≤ size
within_count token count left size is h = omega (arith, is, h)

pub refuses : (l : Limits) (ts : List TokenKind) (why : Stop) (count : ℕ) (e : ParseErr) → count ≡ length ts → (why ≢ stop.Memory → source_at l ts ≡ stopped why) → located why count e → Refuses l ts e
refuses l ts (stop.Syntax left) count (error.Syntax token) is no' h = record { none = no_tree l ts (stop.Syntax left) (no' (λ x. absurd cc)); place = within_count token count left (length ts) is h }
refuses l ts (stop.TooDeep left) count (error.TooDeep token) is no' h = record { none = no_tree l ts (stop.TooDeep left) (no' (λ x. absurd cc)); place = within_count token count left (length ts) is h }
refuses l ts stop.Memory count error.Memory is no' h = tt
refuses l ts _ count _ is no' h = absurd h

pub refused_only : (l : Limits) (ts : List TokenKind) (why : Stop) (count : ℕ) (e : ParseErr) (s : Source) → (why ≢ stop.Memory → source_at l ts ≡ stopped why) → located why count e → HasTreeWithin l ts s → IsOrNoMemory (Err e) (Ok s)
refused_only l ts (stop.Syntax left) count (error.Syntax token) s no' h k = absurd (no_tree l ts (stop.Syntax left) (no' (λ x. absurd cc)) s k)
refused_only l ts (stop.TooDeep left) count (error.TooDeep token) s no' h k = absurd (no_tree l ts (stop.TooDeep left) (no' (λ x. absurd cc)) s k)
refused_only l ts stop.Memory count error.Memory s no' h k = inr refl
refused_only l ts _ count _ s no' h k = absurd h

pub as_many : (tokens : List Token) → length tokens ≡ length (kinds tokens)
as_many tokens = sym (length-map tokens (λ t. t.kind))

pub stopped_there : (l : Limits) (ts : List TokenKind) (why : Stop) (count : ℕ) (e : ParseErr) → count ≡ length ts → (why ≢ stop.Memory → source_at l ts ≡ stopped why) → located why count e → Stopped l ts e
stopped_there l ts (stop.Syntax left) count (error.Syntax token) is no' h = (left, no' (λ x. absurd cc), h ∙ ap (λ (x : ℕ). x - left) is)
stopped_there l ts (stop.TooDeep left) count (error.TooDeep token) is no' h = (left, no' (λ x. absurd cc), h ∙ ap (λ (x : ℕ). x - left) is)
stopped_there l ts stop.Memory count error.Memory is no' h = tt
stopped_there l ts _ count _ is no' h = absurd h
