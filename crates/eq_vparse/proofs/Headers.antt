-- Headers are read by the grammar.
use Rattle.std.proofs.Common.{◌≡◌, ℕ, suc, ◌<◌, Bool, true, false, cond, List, [], ◌∷◌, ◌++◌, length, Option, Some, None, refl, sym, ap, subst, ◌∙◌, inl, inr, append_assoc, arith}
use Rattle.std.proofs.lemmas.Bool.{cases_Bool}
use Rattle.std.proofs.lemmas.List.{append-nil}
use Rattle.eq_vlex.specs.declared.key.Key.{Key}
use Rattle.eq_vlex.specs.declared.key.Key.TheVariants as word
use Rattle.eq_vlex.specs.declared.mark.Mark.TheVariants.{LeftParen, RightParen, Semicolon, Comma}
use Rattle.eq_vlex.specs.declared.token.Constant.{Constant}
use Rattle.eq_vlex.specs.declared.token.TokenKind.{TokenKind}
use Rattle.eq_vlex.specs.declared.token.TokenKind.TheVariants as token
use Rattle.eq_vparse.specs.declared.header.Header.{Header}
use Rattle.eq_vparse.specs.declared.header.Port.{Port}
use Rattle.eq_vparse.specs.declared.header.PortKind.{PortKind}
use Rattle.eq_vparse.specs.declared.header.PortKind.TheVariants as kind
use Rattle.eq_vparse.specs.declared.header.Ports.{Ports}
use Rattle.eq_vparse.specs.declared.tree.Item.{Item}
use Rattle.eq_vparse.specs.declared.tree.Range.{Range}
use Rattle.eq_vparse.specs.Tests.{is_mark, is_key, is_word}
use Rattle.eq_vparse.specs.Reading.{read, next, ◌>>=◌, done, name_at, takes, takes_key, expect}
use Rattle.eq_vparse.specs.Looping.{comma_turn, turn_until, repeat_until}
use Rattle.eq_vparse.specs.Rules as rule
use Rattle.eq_vparse.specs.Rules.{Rule, name, mark, key, maybe, many, separated, give, AreMany}
use Rattle.eq_vparse.specs.Targets.{range}
use Rattle.eq_vparse.specs.Grammar.{value, port_items, decl, Entry, whole, bare, entry, like, declared, header_of, names, decls, header}
use Rattle.eq_vparse.specs.HeaderReading.{plain_port_at, reg_port_at, output_if, decl_if, decl_at, next_port_at, with_port, put, empty, more_ports_at, ends_ports, all_ports_at, decls_at, port_name_at, port_names_at, some_ports_at, ports_at, header_if, header_at}
use Rattle.eq_vparse.proofs.Standing.{mark_here, mark_stands}
use Rattle.eq_vparse.proofs.Turns.{took}
use Rattle.eq_vparse.proofs.Looping.{Progresses}
use Rattle.eq_vparse.proofs.Agreement.{Sound, SoundBy, Chain, SoundInto, CompleteInto, Anything, put_all, next_read, same_value, same_left, name_sound, mark_sound, key_sound, done_sound, then_sound}
use Rattle.eq_vparse.proofs.Lists.{comma_progress, until_sound, until_complete, until_progress}
use Rattle.eq_vparse.proofs.TargetSentences.{NoBracket, maybe_range_sound}
use Rattle.eq_vparse.proofs.Follows.{Next, EndsEntry, Skip, NoKey, skip_sound, skip_complete, within_skip, covers_skip, Within, Covers, Completes, completed, chained, chained_on, simply, given, at_last, before_mark, a_name, a_mark, a_key}
use Rattle.eq_vparse.proofs.Connections.{push, push_sound, push_complete, comma_part, comma_whole, no_comma}
use Rattle.eq_vparse.proofs.Declarations.{value_sound, a_value, output_reg_is}
use Rattle.eq_vparse.proofs.Listed.{NextWord, word_no_bracket, word_no_key, name_first, a_range}

-- ---- ports that are only named

pub port_name_sound : SoundInto name push port_name_at
unfolding port_name_at
port_name_sound = push_sound name name_at name_sound

pub port_name_progress : Progresses (comma_turn port_name_at)
port_name_progress = comma_progress name push port_name_at port_name_sound

port_name_complete : CompleteInto name push port_name_at Anything
unfolding port_name_at
port_name_complete = push_complete name name_at Anything (completed name.sentence name_at Anything a_name)

port_names_sound : SoundBy (separated name).sentence port_names_at
unfolding port_names_at
port_names_sound = comma_part name port_name_at port_name_sound

port_names_complete : Completes (separated name).sentence port_names_at (Next RightParen)
unfolding port_names_at
port_names_complete = comma_whole name port_name_at Anything (Next RightParen) port_name_complete (λ ts. tt) (λ ts f. tt) no_comma

-- ---- declarations

-- a port that is no register, behind its first key
plain : PortKind → Rule Port
plain k = rule.◌>>=◌ (maybe (key word.Wire)) (λ _. rule.◌>>=◌ (maybe range) (λ r. rule.◌>>=◌ name (λ n. give (record { kind = k; range = r; name = n; value = None }))))

PlainBehind : PortKind → List TokenKind → Port → Type 0
PlainBehind k = Chain (maybe range).sentence (λ r. Chain name.sentence (λ n. (give (record { kind = k; range = r; name = n; value = None })).sentence))

PlainRead : PortKind → List TokenKind → Port → Type 0
PlainRead k = Chain (Skip word.Wire) (λ _. PlainBehind k)

same : {A : Type 0} → A → A
same a = a

itself : {A : Type 0} (G : List TokenKind → A → Type 0) → Within same G G
unfolding same
itself G us b h = (b, h, refl)

covers_itself : {A : Type 0} (G : List TokenKind → A → Type 0) → Covers same G G
unfolding same
covers_itself G us a b h is = subst (λ x. G us x) (sym is) h

plain_sound : (k : PortKind) → Sound (plain k) (plain_port_at k)
unfolding plain_port_at plain PlainRead PlainBehind same
plain_sound k ts p r e =
    let h = then_sound (Skip word.Wire) (λ _. PlainBehind k) _ _ (skip_sound word.Wire) (λ _. then_sound _ _ _ _ maybe_range_sound (λ x. then_sound _ _ _ _ name_sound (λ n. done_sound _))) ts p r e in
    let w = within_skip word.Wire same (PlainBehind k) (PlainBehind k) (itself (PlainBehind k)) h.0 p h.2 in
    (h.0, h.1, subst (λ x. (plain k).sentence h.0 x) (sym w.2) w.1)

-- neither `[` nor a name is a key
behind_no_key : (j : Key) (k : PortKind) (us : List TokenKind) (x : Option Range) (vs : List TokenKind) (p : Port) (r : List TokenKind) → (maybe range).sentence us x → Chain name.sentence (λ n. (give (record { kind = k; range = x; name = n; value = None })).sentence) vs p
    → is_key j (us ++ (vs ++ r)) ≡ false
unfolding is_key
behind_no_key j k us None vs p r h s = rw h (word_no_key j (vs ++ r) (name_first (λ n. (give (record { kind = k; range = None; name = n; value = None })).sentence) vs p r s))
behind_no_key j k us (Some x) vs p r h s = rw (h.3, h.4) refl

plain_no_key : (j : Key) (k : PortKind) (us : List TokenKind) (p : Port) (r : List TokenKind) → PlainBehind k us p → is_key j (us ++ r) ≡ false
unfolding PlainBehind
plain_no_key j k us p r s =
    subst (λ (x : List TokenKind). is_key j x ≡ false) (sym (append_assoc s.0 s.1 r) ∙ ap (λ (x : List TokenKind). x ++ r) (sym s.3)) (behind_no_key j k s.0 s.2 s.1 p r s.4 s.5)

plain_follow : (k : PortKind) (b : Bool) (vs : List TokenKind) (p : Port) (r : List TokenKind) → PlainBehind k vs p → EndsEntry r → NoKey word.Wire b (vs ++ r)
plain_follow k true vs p r h f = tt
plain_follow k false vs p r h f = plain_no_key word.Wire k vs p r h

plain_completes : (k : PortKind) → Completes (PlainRead k) (plain_port_at k) EndsEntry
unfolding plain_port_at PlainRead PlainBehind
plain_completes k = chained_on (Skip word.Wire) (λ _. PlainBehind k) (takes_key word.Wire) _ (NoKey word.Wire) EndsEntry (skip_complete word.Wire)
    (λ _. chained (maybe range).sentence _ _ _ NoBracket EndsEntry a_range (λ x. simply _ _ _ _ EndsEntry a_name (λ n. given _ EndsEntry)) (λ x vs p r s f. word_no_bracket (vs ++ r) (name_first (λ n. (give (record { kind = k; range = x; name = n; value = None })).sentence) vs p r s)))
    (plain_follow k)

plain_read : (k : PortKind) → Covers same (plain k).sentence (PlainRead k)
unfolding plain PlainRead PlainBehind
plain_read k = covers_skip word.Wire same (PlainBehind k) (PlainBehind k) (covers_itself (PlainBehind k))

plain_complete : (k : PortKind) → Completes (plain k).sentence (plain_port_at k) EndsEntry
unfolding same
plain_complete k us p r ts h f is = plain_completes k us p r ts (plain_read k us p p h refl) f is

-- behind `output reg`
reg_port : Rule Port
reg_port = rule.◌>>=◌ (maybe range) (λ r. rule.◌>>=◌ name (λ n. rule.◌>>=◌ value (λ c. give (record { kind = kind.OutputReg; range = r; name = n; value = c }))))

reg_port_sound : Sound reg_port reg_port_at
unfolding reg_port_at reg_port
reg_port_sound = then_sound _ _ _ _ maybe_range_sound (λ r. then_sound _ _ _ _ name_sound (λ n. then_sound _ _ _ _ value_sound (λ c. done_sound _)))

reg_port_complete : Completes reg_port.sentence reg_port_at EndsEntry
unfolding reg_port_at reg_port
reg_port_complete = chained (maybe range).sentence _ _ _ NoBracket EndsEntry a_range (λ x. simply _ _ _ _ EndsEntry a_name (λ n. at_last _ _ _ EndsEntry a_value))
    (λ x vs p r s f. word_no_bracket (vs ++ r) (name_first (λ n. (rule.◌>>=◌ value (λ c. give (record { kind = kind.OutputReg; range = x; name = n; value = c }))).sentence) vs p r s))

-- behind `output`
output_rule : Bool → Rule Port
output_rule true = reg_port
output_rule false = plain kind.Output

output_sound : (b : Bool) → SoundBy (output_rule b).sentence (output_if b)
unfolding output_rule output_if
output_sound true = reg_port_sound
output_sound false = plain_sound kind.Output

output_complete : (b : Bool) → Completes (output_rule b).sentence (output_if b) EndsEntry
unfolding output_rule output_if
output_complete true = reg_port_complete
output_complete false = plain_complete kind.Output

OutputRead : List TokenKind → Port → Type 0
OutputRead = Chain (Skip word.Reg) (λ b. (output_rule b).sentence)

DeclBehind : Bool → List TokenKind → Port → Type 0
DeclBehind true = (plain kind.Input).sentence
DeclBehind false = Chain (key word.Output).sentence (λ _. OutputRead)

DeclRead : List TokenKind → Port → Type 0
DeclRead = Chain (Skip word.Input) DeclBehind

decl_if_sound : (b : Bool) → SoundBy (DeclBehind b) (decl_if b)
unfolding DeclBehind decl_if OutputRead
decl_if_sound true = plain_sound kind.Input
decl_if_sound false = then_sound _ _ _ _ (key_sound word.Output) (λ _. then_sound (Skip word.Reg) (λ b. (output_rule b).sentence) _ _ (skip_sound word.Reg) (λ b. output_sound b))

decl_read_sound : SoundBy DeclRead decl_at
unfolding DeclRead decl_at
decl_read_sound = then_sound (Skip word.Input) DeclBehind _ _ (skip_sound word.Input) decl_if_sound

output_decl : (us : List TokenKind) (b : Bool) (vs : List TokenKind) (p : Port) → Skip word.Reg us b → (output_rule b).sentence vs p → decl.sentence (token.Key word.Output ∷ (us ++ vs)) p
unfolding output_rule reg_port plain
output_decl us true vs p s h = inr (inr (token.Key word.Output ∷ [], us ++ vs, tt, refl, refl, (us, vs, tt, refl, s, h)))
output_decl us false vs p s h = inr (inl (token.Key word.Output ∷ [], us ++ vs, tt, refl, refl, subst (λ (x : List TokenKind). (plain kind.Output).sentence (x ++ vs) p) (sym s) h))

decl_behind : (us : List TokenKind) (b : Bool) (vs : List TokenKind) (p : Port) → Skip word.Input us b → DeclBehind b vs p → decl.sentence (us ++ vs) p
unfolding DeclBehind OutputRead plain
decl_behind us true vs p s h = inl (us, vs, tt, refl, s, h)
decl_behind us false vs p s h =
    let o = h.5 in
    let d = output_decl o.0 o.2 o.1 p o.4 o.5 in
    let whole : token.Key word.Output ∷ (o.0 ++ o.1) ≡ us ++ vs = ap (λ (x : List TokenKind). token.Key word.Output ∷ x) (sym o.3) ∙ ap (λ (x : List TokenKind). x ++ h.1) (sym h.4) ∙ sym h.3 ∙ ap (λ (x : List TokenKind). x ++ vs) (sym s) in
    subst (λ (x : List TokenKind). decl.sentence x p) whole d

pub decl_sound : Sound decl decl_at
unfolding DeclRead
decl_sound ts p r e =
    let h = decl_read_sound ts p r e in
    let s = h.2 in
    (h.0, h.1, subst (λ (x : List TokenKind). decl.sentence x p) (sym s.3) (decl_behind s.0 s.2 s.1 p s.4 s.5))

-- and what the grammar says is read

after_wire : (us : List TokenKind) (b : Bool) (vs : List TokenKind) (p : Port) (r : List TokenKind) → Skip word.Wire us b → PlainBehind kind.Output vs p → is_key word.Reg (us ++ (vs ++ r)) ≡ false
unfolding is_key
after_wire us true vs p r s h = rw s refl
after_wire us false vs p r s h = rw s (plain_no_key word.Reg kind.Output vs p r h)

plain_no_reg : (us : List TokenKind) (p : Port) (r : List TokenKind) → PlainRead kind.Output us p → is_key word.Reg (us ++ r) ≡ false
unfolding PlainRead
plain_no_reg us p r s = subst (λ (x : List TokenKind). is_key word.Reg x ≡ false) (sym (append_assoc s.0 s.1 r) ∙ ap (λ (x : List TokenKind). x ++ r) (sym s.3)) (after_wire s.0 s.2 s.1 p r s.4 s.5)

output_follow : (b : Bool) (vs : List TokenKind) (p : Port) (r : List TokenKind) → (output_rule b).sentence vs p → EndsEntry r → NoKey word.Reg b (vs ++ r)
unfolding output_rule same
output_follow true vs p r h f = tt
output_follow false vs p r h f = plain_no_reg vs p r (plain_read kind.Output vs p p h refl)

output_read : Completes OutputRead (takes_key word.Reg >>= output_if) EndsEntry
unfolding OutputRead
output_read = chained_on (Skip word.Reg) (λ b. (output_rule b).sentence) (takes_key word.Reg) output_if (NoKey word.Reg) EndsEntry (skip_complete word.Reg) output_complete output_follow

decl_if_complete : (b : Bool) → Completes (DeclBehind b) (decl_if b) EndsEntry
unfolding DeclBehind decl_if
decl_if_complete true = plain_complete kind.Input
decl_if_complete false = simply _ _ _ _ EndsEntry (a_key word.Output) (λ _. output_read)

decl_follow : (b : Bool) (vs : List TokenKind) (p : Port) (r : List TokenKind) → DeclBehind b vs p → EndsEntry r → NoKey word.Input b (vs ++ r)
unfolding DeclBehind is_key
decl_follow true vs p r h f = tt
decl_follow false vs p r h f = rw (h.3, h.4) refl

decl_read : Completes DeclRead decl_at EndsEntry
unfolding DeclRead decl_at
decl_read = chained_on (Skip word.Input) DeclBehind (takes_key word.Input) decl_if (NoKey word.Input) EndsEntry (skip_complete word.Input) decl_if_complete decl_follow

in_read : (us : List TokenKind) (p : Port) → decl.sentence us p → DeclRead us p
unfolding DeclRead DeclBehind OutputRead output_rule reg_port plain
in_read us p (inl h) = (h.0, h.1, true, h.3, h.4, h.5)
in_read us p (inr (inl h)) = ([], us, false, refl, refl, (h.0, h.1, tt, h.3, h.4, ([], h.1, false, refl, refl, h.5)))
in_read us p (inr (inr h)) = (let o = h.5 in ([], us, false, refl, refl, (h.0, h.1, tt, h.3, h.4, (o.0, o.1, true, o.3, o.4, o.5))))

decl_complete : Completes decl.sentence decl_at EndsEntry
decl_complete us p r ts h f is = decl_read us p r ts (in_read us p h) f is

-- a declaration is no name
decl_no_word : (us : List TokenKind) (p : Port) (r : List TokenKind) → decl.sentence us p → is_word (us ++ r) ≡ false
unfolding is_word
decl_no_word us p r (inl h) = rw (h.3, h.4) refl
decl_no_word us p r (inr (inl h)) = rw (h.3, h.4) refl
decl_no_word us p r (inr (inr h)) = rw (h.3, h.4) refl

some_key : (us vs : List TokenKind) (k : Key) → us ≡ token.Key k ∷ vs → 0 < length us
some_key us vs k e = (let long : length us ≡ suc (length vs) = ap length e in omega (arith, long))

decl_some : (us : List TokenKind) (p : Port) → decl.sentence us p → 0 < length us
decl_some us p (inl h) = some_key us h.1 word.Input (h.3 ∙ ap (λ (x : List TokenKind). x ++ h.1) h.4)
decl_some us p (inr (inl h)) = some_key us h.1 word.Output (h.3 ∙ ap (λ (x : List TokenKind). x ++ h.1) h.4)
decl_some us p (inr (inr h)) = some_key us h.1 word.Output (h.3 ∙ ap (λ (x : List TokenKind). x ++ h.1) h.4)

decl_no_paren : (us : List TokenKind) (p : Port) (r : List TokenKind) → decl.sentence us p → is_mark RightParen (us ++ r) ≡ false
unfolding is_mark
decl_no_paren us p r (inl h) = rw (h.3, h.4) refl
decl_no_paren us p r (inr (inl h)) = rw (h.3, h.4) refl
decl_no_paren us p r (inr (inr h)) = rw (h.3, h.4) refl

-- ---- the next port

abbrev port_of : Port → Entry → Port
port_of last (whole p) = p
port_of last (bare n) = like last n

EntryRead : Port → List TokenKind → Port → Type 0
EntryRead last us p = (e : Entry) × entry.sentence us e × (p ≡ port_of last e)

next_port_sound : (last : Port) → SoundBy (EntryRead last) (next_port_at last)
unfolding next_port_at EntryRead
next_port_sound last ts p r e = elim (cases_Bool (is_word ts)) [
  | inl y ↦
      let e' : next (name_at ts) (λ n. done (like last n)) ≡ read p r = subst (λ b. cond b (next (name_at ts) (λ n. done (like last n))) (decl_at ts) ≡ read p r) y e in
      let k = next_read (name_at ts) (λ n. done (like last n)) p r e' in
      let h = name_sound ts k.0 k.1 k.2 in
      (h.0, h.1 ∙ ap (λ (x : List TokenKind). h.0 ++ x) (same_left (like last k.0) p k.1 r k.3), (bare k.0, inr (h.0, [], k.0, sym (append-nil h.0), h.2, (refl, refl)), sym (same_value (like last k.0) p k.1 r k.3)))
  | inr n ↦
      let e' : decl_at ts ≡ read p r = subst (λ b. cond b (next (name_at ts) (λ n. done (like last n))) (decl_at ts) ≡ read p r) n e in
      let h = decl_sound ts p r e' in
      (h.0, h.1, (whole p, inl (h.0, [], p, sym (append-nil h.0), h.2, (refl, refl)), refl))
]

entry_complete : (last : Port) (us : List TokenKind) (e : Entry) (r : List TokenKind) → entry.sentence us e → EndsEntry r → next_port_at last (us ++ r) ≡ read (port_of last e) r
unfolding next_port_at is_word name_at
entry_complete last us e r (inl h) f =
    let end : us ≡ h.0 = h.3 ∙ ap (λ (x : List TokenKind). h.0 ++ x) h.5.0 ∙ append-nil h.0 in
    rw (end, decl_no_word h.0 h.2 r h.4, decl_complete h.0 h.2 r (h.0 ++ r) h.4 f refl) (ap (λ x. read (port_of last x) r) (sym h.5.1))
entry_complete last us e r (inr h) f =
    let end : us ≡ token.Word h.2 ∷ [] = h.3 ∙ ap (λ (x : List TokenKind). x ++ h.1) h.4 ∙ ap (λ (x : List TokenKind). token.Word h.2 ∷ x) h.5.0 in
    rw end (ap (λ x. read (port_of last x) r) (sym h.5.1))

-- ---- all ports of a header that declares them

abbrev behind_comma : Rule Entry
behind_comma = rule.◌>>=◌ (mark Comma) (λ _. entry)

abbrev put_entry : Ports → Entry → Ports
put_entry ports e = record { header = put ports.header (port_of ports.last e); last = port_of ports.last e }

more_ports_sound : SoundInto behind_comma put_entry more_ports_at
unfolding more_ports_at EntryRead
more_ports_sound ports ts s r e =
    let k = next_read (expect Comma ts) (λ _. next_port_at ports.last >>= λ p. done (record { header = put ports.header p; last = p })) s r e in
    let m = mark_sound Comma ts k.0 k.1 k.2 in
    let n = next_read (next_port_at ports.last k.1) (λ p. done (record { header = put ports.header p; last = p })) s r k.3 in
    let h = next_port_sound ports.last k.1 n.0 n.1 n.2 in
    let entry_is = h.2 in
    let q : Ports = record { header = put ports.header n.0; last = n.0 } in
    let left : n.1 ≡ r = same_left q s n.1 r n.3 in
    let value : s ≡ put_entry ports entry_is.0 = sym (same_value q s n.1 r n.3) ∙ ap (λ (x : Port). record { header = put ports.header x; last = x }) entry_is.2 in
    (m.0 ++ h.0, entry_is.0, m.1 ∙ ap (λ (x : List TokenKind). m.0 ++ x) (h.1 ∙ ap (λ (x : List TokenKind). h.0 ++ x) left) ∙ sym (append_assoc m.0 h.0 r), (m.0, h.0, tt, refl, m.2, entry_is.1), value)

more_ports_complete : CompleteInto behind_comma put_entry more_ports_at EndsEntry
unfolding more_ports_at
more_ports_complete ports us e r h f =
    let first : us ≡ token.Mark Comma ∷ h.1 = h.3 ∙ ap (λ (x : List TokenKind). x ++ h.1) h.4 in
    let comma : expect Comma (token.Mark Comma ∷ (h.1 ++ r)) ≡ read tt (h.1 ++ r) = a_mark Comma (token.Mark Comma ∷ []) tt (h.1 ++ r) (token.Mark Comma ∷ (h.1 ++ r)) refl tt refl in
    rw (first, comma, entry_complete ports.last h.1 e r h.5 f) refl

comma_some : (us : List TokenKind) (e : Entry) → behind_comma.sentence us e → 0 < length us
comma_some us e h = (let long : length us ≡ suc (length h.1) = ap length (h.3 ∙ ap (λ (x : List TokenKind). x ++ h.1) h.4) in omega (arith, long))

pub more_ports_progress : Progresses (turn_until ends_ports more_ports_at)
more_ports_progress = until_progress behind_comma put_entry more_ports_at ends_ports more_ports_sound comma_some

comma_goes_on : (us : List TokenKind) (e : Entry) (r : List TokenKind) → behind_comma.sentence us e → ends_ports (us ++ r) ≡ false
unfolding is_mark
comma_goes_on us e r h = rw (h.3, h.4) refl

paren_ends_ports : (r : List TokenKind) → Next RightParen r → ends_ports r ≡ true
unfolding is_mark
paren_ends_ports r f = rw (f.1) refl

many_ends : (vs : List TokenKind) (list : List Entry) (r : List TokenKind) → AreMany behind_comma vs list → Next RightParen r → EndsEntry (vs ++ r)
many_ends vs [] r h f = rw (h, f.1) refl
many_ends vs (e ∷ list) r h f =
    let c = h.3 in
    let first : vs ++ r ≡ token.Mark Comma ∷ ((c.1 ++ h.1) ++ r) = ap (λ (x : List TokenKind). x ++ r) (h.2 ∙ ap (λ (x : List TokenKind). x ++ h.1) (c.3 ∙ ap (λ (x : List TokenKind). x ++ c.1) c.4)) in
    subst EndsEntry (sym first) refl

-- ---- what the ports give

put_ports : Header → List Port → Header
put_ports h [] = h
put_ports h (p ∷ ports) = put_ports (put h p) ports

headed : (rest : List Entry) (p : Port) (h : Header) → (put_all put_entry (record { header = put h p; last = p }) rest).header ≡ put_ports h (declared p rest)
unfolding put_ports
headed [] p h = refl
headed (whole q ∷ rest) p h = headed rest q (put h p)
headed (bare n ∷ rest) p h = headed rest (like p n) (put h p)

with_port_is : (items : List Item) (k : PortKind) (r : Option Range) (n : List ℕ) (c : Option Constant) → with_port items k r n c ≡ items ++ port_items k r n c
with_port_is items kind.Input r n c = refl
with_port_is items kind.Output r n c = refl
with_port_is items kind.OutputReg r n c = output_reg_is items r n c

abbrev behind : Header → Header → Header
behind h more = record { ports = h.ports ++ more.ports; items = h.items ++ more.items }

abbrev pair : List (List ℕ) → List Item → Header
pair ps xs = record { ports = ps; items = xs }

put_ports_is : (ports : List Port) (h : Header) → put_ports h ports ≡ behind h (header_of ports)
unfolding put_ports put
put_ports_is [] h = ap (λ (x : List (List ℕ)). pair x h.items) (sym (append-nil h.ports)) ∙ ap (λ (x : List Item). pair (h.ports ++ []) x) (sym (append-nil h.items))
put_ports_is (p ∷ ports) h =
    let more = header_of ports in
    let own = port_items p.kind p.range p.name p.value in
    put_ports_is ports (put h p)
    ∙ ap (λ (x : List (List ℕ)). pair x (with_port h.items p.kind p.range p.name p.value ++ more.items)) (append_assoc h.ports (p.name ∷ []) more.ports)
    ∙ ap (λ (x : List Item). pair (h.ports ++ p.name ∷ more.ports) (x ++ more.items)) (with_port_is h.items p.kind p.range p.name p.value)
    ∙ ap (λ (x : List Item). pair (h.ports ++ p.name ∷ more.ports) x) (append_assoc h.items own more.items)

ports_are : (rest : List Entry) (p : Port) → (put_all put_entry (record { header = put empty p; last = p }) rest).header ≡ header_of (declared p rest)
ports_are rest p = headed rest p empty ∙ put_ports_is (declared p rest) empty

AllPorts : Port → List TokenKind → Ports → Type 0
AllPorts p us ports = (rest : List Entry) × AreMany behind_comma us rest × (ports ≡ put_all put_entry (record { header = put empty p; last = p }) rest)

all_ports_sound : (p : Port) → SoundBy (AllPorts p) (all_ports_at (record { header = put empty p; last = p }))
unfolding all_ports_at AllPorts
all_ports_sound p ts s r e =
    let h = until_sound behind_comma put_entry more_ports_at ends_ports more_ports_sound (record { header = put empty p; last = p }) ts s r e in
    (h.0, h.2, (h.1, h.3, h.4))

all_ports_complete : (p : Port) → Completes (AllPorts p) (all_ports_at (record { header = put empty p; last = p })) (Next RightParen)
unfolding all_ports_at AllPorts
all_ports_complete p us s r ts h f is =
    let start : Ports = record { header = put empty p; last = p } in
    ap (repeat_until ends_ports more_ports_at start) is
    ∙ until_complete behind_comma put_entry more_ports_at ends_ports EndsEntry (Next RightParen) more_ports_complete comma_goes_on comma_some many_ends paren_ends_ports start us h.0 r h.1 f
    ∙ ap (λ x. read x r) (sym h.2)

DeclsRead : List TokenKind → Header → Type 0
DeclsRead = Chain decl.sentence (λ p. Chain (AllPorts p) (λ ports. (give ports.header).sentence))

decls_sound : Sound decls decls_at
unfolding decls_at DeclsRead AllPorts
decls_sound ts x r e =
    let h = then_sound decl.sentence (λ p. Chain (AllPorts p) (λ ports. (give ports.header).sentence)) decl_at (λ p. all_ports_at (record { header = put empty p; last = p }) >>= λ ports. done ports.header) decl_sound
    (λ p. then_sound (AllPorts p) (λ ports. (give ports.header).sentence) _ _ (all_ports_sound p) (λ ports. done_sound ports.header)) ts x r e in
    let s = h.2 in
    let k = s.5 in
    let rest = k.4 in
    (h.0, h.1, (s.0, s.1, s.2, s.3, s.4, (k.0, k.1, rest.0, k.3, rest.1, (k.5.0, k.5.1 ∙ ap (λ (y : Ports). y.header) rest.2 ∙ ports_are rest.0 s.2))))

all_ports_ends : (p : Port) (vs : List TokenKind) (x : Header) (r : List TokenKind) → Chain (AllPorts p) (λ ports. (give ports.header).sentence) vs x → Next RightParen r → EndsEntry (vs ++ r)
unfolding AllPorts
all_ports_ends p vs x r s f =
    let end : vs ≡ s.0 = s.3 ∙ ap (λ (y : List TokenKind). s.0 ++ y) s.5.0 ∙ append-nil s.0 in
    subst (λ (y : List TokenKind). EndsEntry (y ++ r)) (sym end) (many_ends s.0 s.4.0 r s.4.1 f)

decls_complete : Completes decls.sentence decls_at (Next RightParen)
unfolding decls_at AllPorts
decls_complete us x r ts s f is =
    let k = s.5 in
    let start : Ports = record { header = put empty s.2; last = s.2 } in
    let all = put_all put_entry start k.2 in
    let inner : Chain (AllPorts s.2) (λ ports. (give ports.header).sentence) s.1 x = (k.0, k.1, all, k.3, (k.2, k.4, refl), (k.5.0, k.5.1 ∙ sym (ports_are k.2 s.2))) in
    chained decl.sentence (λ p. Chain (AllPorts p) (λ ports. (give ports.header).sentence)) decl_at (λ p. all_ports_at (record { header = put empty p; last = p }) >>= λ ports. done ports.header) EndsEntry (Next RightParen) decl_complete
    (λ p. at_last (AllPorts p) _ (λ ports. ports.header) (Next RightParen) (all_ports_complete p)) all_ports_ends us x r ts (s.0, s.1, s.2, s.3, s.4, inner) f is

-- ---- a whole header

-- what stands in the parentheses
abbrev inside : Rule Header
inside = rule.◌or◌ (give (record { ports = []; items = [] })) (rule.◌or◌ names decls)

paren_stands : (r : List TokenKind) → Next RightParen r → is_mark RightParen r ≡ true
unfolding is_mark
paren_stands r f = rw (f.1) refl

word_here : (ts : List TokenKind) → NextWord ts → (is_mark RightParen ts ≡ false) × (is_word ts ≡ true)
unfolding is_mark is_word
word_here ts f = (rw (f.2) refl, rw (f.2) refl)

names_word : (us : List TokenKind) (list : List (List ℕ)) (r : List TokenKind) → (separated name).sentence us list → NextWord (us ++ r)
names_word us list r s = (s.2, s.1 ++ r, ap (λ (x : List TokenKind). x ++ r) s.3 ∙ ap (λ (x : List TokenKind). (x ++ s.1) ++ r) s.4)

decls_first : (us : List TokenKind) (x : Header) (r : List TokenKind) → decls.sentence us x → (is_mark RightParen (us ++ r) ≡ false) × (is_word (us ++ r) ≡ false)
decls_first us x r s =
    let whole : us ++ r ≡ s.0 ++ (s.1 ++ r) = ap (λ (y : List TokenKind). y ++ r) s.3 ∙ append_assoc s.0 s.1 r in
    (ap (is_mark RightParen) whole ∙ decl_no_paren s.0 s.2 (s.1 ++ r) s.4, ap is_word whole ∙ decl_no_word s.0 s.2 (s.1 ++ r) s.4)

inside_complete : Completes inside.sentence ports_at (Next RightParen)
unfolding ports_at some_ports_at
inside_complete us x r ts (inl h) f is =
    let end : ts ≡ r = is ∙ ap (λ (y : List TokenKind). y ++ r) h.0 in
    rw (end, paren_stands r f) (ap (λ y. read y r) (sym h.1))
inside_complete us x r ts (inr (inl s)) f is =
    let end : us ≡ s.0 = s.3 ∙ ap (λ (y : List TokenKind). s.0 ++ y) s.5.0 ∙ append-nil s.0 in
    let first = word_here (s.0 ++ r) (names_word s.0 s.2 r s.4) in
    rw (is, end, first.0, first.1, port_names_complete s.0 s.2 r (s.0 ++ r) s.4 f refl) (ap (λ y. read y r) (sym s.5.1))
inside_complete us x r ts (inr (inr s)) f is =
    let first = decls_first us x r s in
    rw (is, first.0, first.1) (decls_complete us x r (us ++ r) s f refl)

inside_sound : SoundBy inside.sentence ports_at
unfolding ports_at some_ports_at
inside_sound ts x r e = elim (cases_Bool (is_mark RightParen ts)) [
  | inl y ↦
      let e' : read empty ts ≡ read x r = subst (λ b. cond b (read empty ts) (some_ports_at (is_word ts) ts) ≡ read x r) y e in
      ([], same_left empty x ts r e', inl (refl, sym (same_value empty x ts r e')))
  | inr n ↦
      let e' : some_ports_at (is_word ts) ts ≡ read x r = subst (λ b. cond b (read empty ts) (some_ports_at (is_word ts) ts) ≡ read x r) n e in
      elim (cases_Bool (is_word ts)) [
        | inl y ↦
            let e'' : next (port_names_at ts) (λ ns. done (pair ns [])) ≡ read x r = subst (λ b. some_ports_at b ts ≡ read x r) y e' in
            let h = then_sound (separated name).sentence (λ ns. (give (pair ns [])).sentence) port_names_at (λ ns. done (pair ns [])) port_names_sound (λ ns. done_sound (pair ns [])) ts x r e'' in
            (h.0, h.1, inr (inl h.2))
        | inr w ↦
            let e'' : decls_at ts ≡ read x r = subst (λ b. some_ports_at b ts ≡ read x r) w e' in
            let h = decls_sound ts x r e'' in
            (h.0, h.1, inr (inr h.2))
      ]
]

header_took : (ts : List TokenKind) (b : Bool) (m : List TokenKind) (x : Header) (r : List TokenKind) → takes LeftParen ts ≡ read b m → header_if b m ≡ read x r → (us : List TokenKind) × (ts ≡ us ++ r) × header.sentence us x
unfolding header_if
header_took ts true m x r t e =
    let w = took LeftParen ts m true t in
    let front : ts ≡ token.Mark LeftParen ∷ m = mark_stands LeftParen ts w.0 ∙ ap (λ (y : List TokenKind). token.Mark LeftParen ∷ y) w.1 in
    let h = then_sound inside.sentence (λ y. Chain (mark RightParen).sentence (λ _. (give y).sentence)) ports_at (λ y. expect RightParen >>= λ _. done y) inside_sound (λ y. then_sound _ _ _ _ (mark_sound RightParen) (λ _. done_sound y)) m x r e in
    (token.Mark LeftParen ∷ h.0, front ∙ ap (λ (y : List TokenKind). token.Mark LeftParen ∷ y) h.1, inl (token.Mark LeftParen ∷ [], h.0, tt, refl, refl, h.2))
header_took ts false m x r t e =
    let w = took LeftParen ts m false t in
    ([], w.1 ∙ same_left empty x m r e, inr (refl, sym (same_value empty x m r e)))

pub header_sound : Sound header header_at
unfolding header_at
header_sound ts x r e =
    let n = next_read (takes LeftParen ts) header_if x r e in
    header_took ts n.0 n.1 x r n.2 n.3

semicolon_no_paren : (r : List TokenKind) → Next Semicolon r → is_mark LeftParen r ≡ false
unfolding is_mark
semicolon_no_paren r f = rw (f.1) refl

in_parens : Completes (rule.◌>>=◌ inside (λ h. rule.◌>>=◌ (mark RightParen) (λ _. give h))).sentence (header_if true) (Next Semicolon)
unfolding header_if
in_parens = before_mark RightParen inside.sentence _ ports_at _ (Next Semicolon) inside_complete (λ h. simply _ _ _ _ (Next Semicolon) (a_mark RightParen) (λ _. given h (Next Semicolon)))

pub header_complete : Completes header.sentence header_at (Next Semicolon)
unfolding header_at header_if takes
header_complete us x r ts (inl s) f is =
    let first : ts ≡ token.Mark LeftParen ∷ (s.1 ++ r) = is ∙ ap (λ (y : List TokenKind). y ++ r) s.3 ∙ ap (λ (y : List TokenKind). (y ++ s.1) ++ r) s.4 in
    rw (first, mark_here LeftParen (s.1 ++ r)) (in_parens s.1 x r (s.1 ++ r) s.5 f refl)
header_complete us x r ts (inr h) f is =
    let end : ts ≡ r = is ∙ ap (λ (y : List TokenKind). y ++ r) h.0 in
    rw (end, semicolon_no_paren r f) (ap (λ y. read y r) (sym h.1))
