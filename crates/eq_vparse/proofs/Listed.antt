-- Entries with commas between them and `;` behind them.
use Rattle.std.proofs.Common.{◌≡◌, ℕ, false, List, [], ◌∷◌, ◌++◌, Option, Some, None, refl, sym, ap, subst, ◌∙◌, append_assoc}
use Rattle.std.proofs.lemmas.List.{append-nil}
use Rattle.eq_vlex.specs.declared.key.Key.{Key}
use Rattle.eq_vlex.specs.declared.mark.Mark.TheVariants.{Comma, Semicolon, LeftBracket}
use Rattle.eq_vlex.specs.declared.token.TokenKind.{TokenKind}
use Rattle.eq_vlex.specs.declared.token.TokenKind.TheVariants as token
use Rattle.eq_vparse.specs.declared.item.Head.{Head}
use Rattle.eq_vparse.specs.declared.item.Head.TheVariants as head
use Rattle.eq_vparse.specs.declared.tree.DeclKind.{DeclKind}
use Rattle.eq_vparse.specs.declared.tree.Item.{Item}
use Rattle.eq_vparse.specs.declared.tree.Range.{Range}
use Rattle.eq_vparse.specs.Limits.{Limits}
use Rattle.eq_vparse.specs.Tests.{is_mark, is_key}
use Rattle.eq_vparse.specs.Reading.{read}
use Rattle.eq_vparse.specs.Looping.{comma_turn, comma_list}
use Rattle.eq_vparse.specs.Rules.{Rule, name, mark, maybe, separated, give}
use Rattle.eq_vparse.specs.Targets.{range}
use Rattle.eq_vparse.specs.Grammar.{joined, listed, port, reg, output_reg, wire, assignment, terminals, instance}
use Rattle.eq_vparse.specs.ItemReading.{entry_at, entries_at, listed_at}
use Rattle.eq_vparse.specs.TargetReading.{maybe_range_at}
use Rattle.eq_vparse.proofs.TargetSentences.{NoBracket, maybe_range_complete}
use Rattle.eq_vparse.proofs.Looping.{Progresses}
use Rattle.eq_vparse.proofs.Agreement.{SoundBy, Chain, SoundInto, CompleteInto, Anything, put_all, mark_sound, done_sound, then_sound}
use Rattle.eq_vparse.proofs.Lists.{AreSeparated, from_separated, comma_sound, comma_complete, comma_progress}
use Rattle.eq_vparse.proofs.Follows.{Next, EndsEntry, Within, Covers, Completes, completes, simply, given, before_mark, a_mark, into_sound, into_complete}
use Rattle.eq_vparse.proofs.Connections.{append, gate_sound, gate_complete, instance_sound, instance_complete}
use Rattle.eq_vparse.proofs.Declarations.{port_sound, port_complete, reg_sound, reg_complete, output_reg_sound, output_reg_complete, wire_sound, wire_complete, assignment_sound, assignment_complete}

-- what the grammar says of one entry of an item that begins so
abbrev pub entry_rule : Limits → Head → Rule (List Item)
entry_rule l (head.Port k r) = port k r
entry_rule l (head.Reg r) = reg r
entry_rule l (head.OutputReg r) = output_reg r
entry_rule l (head.Wire r) = wire l r
entry_rule l head.Assign = assignment l
entry_rule l (head.Gate g) = terminals l g
entry_rule l (head.Instance m) = instance l m

pub entry_sound : (l : Limits) (h : Head) → SoundInto (entry_rule l h) append (entry_at l h)
entry_sound l (head.Port k r) = port_sound k r
entry_sound l (head.Reg r) = reg_sound r
entry_sound l (head.OutputReg r) = output_reg_sound r
entry_sound l (head.Wire r) = wire_sound l r
entry_sound l head.Assign = assignment_sound l
entry_sound l (head.Gate g) = gate_sound l g
entry_sound l (head.Instance m) = instance_sound l m

pub entry_complete : (l : Limits) (h : Head) → CompleteInto (entry_rule l h) append (entry_at l h) EndsEntry
entry_complete l (head.Port k r) = port_complete k r
entry_complete l (head.Reg r) = reg_complete r
entry_complete l (head.OutputReg r) = output_reg_complete r
entry_complete l (head.Wire r) = wire_complete l r
entry_complete l head.Assign = assignment_complete l
entry_complete l (head.Gate g) = gate_complete l g
entry_complete l (head.Instance m) = instance_complete l m

pub entry_progress : (l : Limits) (h : Head) → Progresses (comma_turn (entry_at l h))
entry_progress l h = comma_progress (entry_rule l h) append (entry_at l h) (entry_sound l h)

-- ---- entries

pub put_all_append : (items : List Item) (lists : List (List Item)) → put_all append items lists ≡ items ++ joined lists
put_all_append items [] = sym (append-nil items)
put_all_append items (list ∷ lists) = put_all_append (append items list) lists ∙ append_assoc items list (joined lists)

-- entries, put behind the items that are there already
Entries : Limits → Head → List Item → List TokenKind → List Item → Type 0
Entries l h items us all = (lists : List (List Item)) × (separated (entry_rule l h)).sentence us lists × (all ≡ items ++ joined lists)

entries_sound : (l : Limits) (h : Head) (items : List Item) → SoundBy (Entries l h items) (entries_at l h items)
unfolding entries_at Entries
entries_sound l h items ts all r e =
    let k = comma_sound (entry_rule l h) append (entry_at l h) (entry_sound l h) items ts all r e in
    (k.0, k.2, (k.1, k.3, k.4 ∙ put_all_append items k.1))

semicolon_ends : (ts : List TokenKind) → Next Semicolon ts → EndsEntry ts
semicolon_ends ts f = rw (f.1) refl

semicolon_no_comma : (ts : List TokenKind) → Next Semicolon ts → is_mark Comma ts ≡ false
unfolding is_mark
semicolon_no_comma ts f = rw (f.1) refl

entries_complete : (l : Limits) (h : Head) (items : List Item) → Completes (Entries l h items) (entries_at l h items) (Next Semicolon)
unfolding entries_at Entries
entries_complete l h items us all r ts k f is =
    ap (comma_list (entry_at l h) items) is
    ∙ comma_complete (entry_rule l h) append (entry_at l h) EndsEntry (Next Semicolon) (entry_complete l h) (λ x. refl) semicolon_ends semicolon_no_comma items us k.0 r k.1 f
    ∙ ap (λ x. read x r) (put_all_append items k.0 ∙ sym k.2)

listed_into : Limits → Head → List Item → List TokenKind → List Item → Type 0
listed_into l h items = Chain (Entries l h items) (λ all. Chain (mark Semicolon).sentence (λ _. (give all).sentence))

listed_within : (l : Limits) (h : Head) (items : List Item) → Within (append items) (listed (entry_rule l h)).sentence (listed_into l h items)
unfolding listed_into Entries
listed_within l h items us b s =
    let k = s.5 in
    (joined s.4.0, (s.0, s.1, s.4.0, s.3, s.4.1, (k.0, k.1, k.2, k.3, k.4, (k.5.0, refl))), k.5.1 ∙ s.4.2)

listed_covers : (l : Limits) (h : Head) (items : List Item) → Covers (append items) (listed (entry_rule l h)).sentence (listed_into l h items)
unfolding listed_into Entries
listed_covers l h items us a b s is =
    let k = s.5 in
    (s.0, s.1, items ++ joined s.2, s.3, (s.2, s.4, refl), (k.0, k.1, k.2, k.3, k.4, (k.5.0, is ∙ ap (append items) k.5.1)))

pub listed_sound : (l : Limits) (h : Head) → SoundInto (listed (entry_rule l h)) append (listed_at l h)
unfolding listed_at listed_into
listed_sound l h = into_sound (listed (entry_rule l h)) append (listed_into l h) (listed_at l h) (listed_within l h)
    (λ items. then_sound (Entries l h items) _ _ _ (entries_sound l h items) (λ all. then_sound _ _ _ _ (mark_sound Semicolon) (λ _. done_sound all)))

pub listed_complete : (l : Limits) (h : Head) → CompleteInto (listed (entry_rule l h)) append (listed_at l h) Anything
unfolding listed_at listed_into
listed_complete l h = into_complete (listed (entry_rule l h)) append (listed_into l h) (listed_at l h) Anything (listed_covers l h)
    (λ items. before_mark Semicolon (Entries l h items) _ _ _ Anything (entries_complete l h items) (λ all. simply _ _ _ _ Anything (a_mark Semicolon) (λ _. given all Anything)))

-- ---- how they begin

-- a name comes next
abbrev pub NextWord : List TokenKind → Type 0
NextWord ts = (n : List ℕ) × (rest : List TokenKind) × (ts ≡ token.Word n ∷ rest)

pub word_no_key : (k : Key) (ts : List TokenKind) → NextWord ts → is_key k ts ≡ false
unfolding is_key
word_no_key k ts f = rw (f.2) refl

pub word_no_bracket : (ts : List TokenKind) → NextWord ts → is_mark LeftBracket ts ≡ false
unfolding is_mark
word_no_bracket ts f = rw (f.2) refl

-- a name is what begins a sequence that begins with it
pub name_first : {B : Type 0} (K : List ℕ → List TokenKind → B → Type 0) (us : List TokenKind) (b : B) (r : List TokenKind) → Chain name.sentence K us b → NextWord (us ++ r)
name_first K us b r s = (s.2, s.1 ++ r, ap (λ (x : List TokenKind). x ++ r) s.3 ∙ ap (λ (x : List TokenKind). (x ++ s.1) ++ r) s.4)

abbrev pub BeginsWithWord : Rule (List Item) → Type 0
BeginsWithWord g = (us : List TokenKind) (a : List Item) (r : List TokenKind) → g.sentence us a → NextWord (us ++ r)

separated_word : (g : Rule (List Item)) → BeginsWithWord g → (us : List TokenKind) (a : List Item) (rest : List (List Item)) (r : List TokenKind) → AreSeparated g us a rest → NextWord (us ++ r)
separated_word g word us a [] r h = word us a r h
separated_word g word us a (b ∷ rest) r h =
    let n = word h.0 a (token.Mark Comma ∷ h.1 ++ r) h.3 in
    (n.0, n.1, ap (λ (x : List TokenKind). x ++ r) h.2 ∙ append_assoc h.0 (token.Mark Comma ∷ h.1) r ∙ n.2)

pub listed_word : (g : Rule (List Item)) → BeginsWithWord g → (us : List TokenKind) (a : List Item) (r : List TokenKind) → (listed g).sentence us a → NextWord (us ++ r)
listed_word g word us a r s =
    let k = from_separated g s.0 s.2 s.4 in
    let n = separated_word g word s.0 k.0 k.1 (s.1 ++ r) k.3 in
    (n.0, n.1, ap (λ (x : List TokenKind). x ++ r) s.3 ∙ append_assoc s.0 s.1 r ∙ n.2)

pub port_word : (k : DeclKind) (r : Option Range) → BeginsWithWord (port k r)
port_word k r us a rest h = (h.2, h.1 ++ rest, ap (λ (x : List TokenKind). x ++ rest) h.3 ∙ ap (λ (x : List TokenKind). (x ++ h.1) ++ rest) h.4)

pub reg_word : (r : Option Range) → BeginsWithWord (reg r)
reg_word r us a rest h = (h.2, h.1 ++ rest, ap (λ (x : List TokenKind). x ++ rest) h.3 ∙ ap (λ (x : List TokenKind). (x ++ h.1) ++ rest) h.4)

pub output_reg_word : (r : Option Range) → BeginsWithWord (output_reg r)
output_reg_word r us a rest h = (h.2, h.1 ++ rest, ap (λ (x : List TokenKind). x ++ rest) h.3 ∙ ap (λ (x : List TokenKind). (x ++ h.1) ++ rest) h.4)

pub wire_word : (l : Limits) (r : Option Range) → BeginsWithWord (wire l r)
wire_word l r us a rest h = (h.2, h.1 ++ rest, ap (λ (x : List TokenKind). x ++ rest) h.3 ∙ ap (λ (x : List TokenKind). (x ++ h.1) ++ rest) h.4)

pub instance_word : (l : Limits) (m : List ℕ) → BeginsWithWord (instance l m)
instance_word l m us a rest h = (h.2, h.1 ++ rest, ap (λ (x : List TokenKind). x ++ rest) h.3 ∙ ap (λ (x : List TokenKind). (x ++ h.1) ++ rest) h.4)

-- ---- a range before a list

pub a_range : Completes (maybe range).sentence maybe_range_at NoBracket
a_range = completes (maybe range).sentence maybe_range_at NoBracket maybe_range_complete

-- neither a range nor a name is a key
range_no_key : (k : Key) (K : Option Range → List TokenKind → List Item → Type 0) → ((x : Option Range) (us : List TokenKind) (a : List Item) (r : List TokenKind) → K x us a → NextWord (us ++ r))
    → (us : List TokenKind) (x : Option Range) (vs : List TokenKind) (a : List Item) (r : List TokenKind) → (maybe range).sentence us x → K x vs a → is_key k (us ++ (vs ++ r)) ≡ false
unfolding is_key
range_no_key k K word us None vs a r h j = rw h (word_no_key k (vs ++ r) (word None vs a r j))
range_no_key k K word us (Some x) vs a r h j = rw (h.3, h.4) refl

pub ranged_no_key : (k : Key) (K : Option Range → List TokenKind → List Item → Type 0) → ((x : Option Range) (us : List TokenKind) (a : List Item) (r : List TokenKind) → K x us a → NextWord (us ++ r))
    → (us : List TokenKind) (a : List Item) (r : List TokenKind) → Chain (maybe range).sentence K us a → is_key k (us ++ r) ≡ false
ranged_no_key k K word us a r s =
    subst (λ (x : List TokenKind). is_key k x ≡ false) (sym (append_assoc s.0 s.1 r) ∙ ap (λ (x : List TokenKind). x ++ r) (sym s.3)) (range_no_key k K word s.0 s.2 s.1 a r s.4 s.5)
