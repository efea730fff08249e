-- Items are read by the grammar.
use Rattle.std.proofs.Common.{◌≡◌, suc, ◌+◌, ◌<◌, Bool, true, false, cond, List, [], ◌∷◌, ◌++◌, length, Option, refl, sym, ap, subst, ◌∙◌, inl, inr, append_assoc, arith}
use Rattle.std.specs.Prelude.{not}
use Rattle.std.proofs.lemmas.List.{append-nil, length-append}
use Rattle.eq_vlex.specs.declared.key.Key.{Key}
use Rattle.eq_vlex.specs.declared.key.Key.TheVariants as word
use Rattle.eq_vlex.specs.declared.mark.Mark.TheVariants.{LeftParen, RightParen, Semicolon, At, Assign as Equals}
use Rattle.eq_vlex.specs.declared.token.TokenKind.{TokenKind}
use Rattle.eq_vlex.specs.declared.token.TokenKind.TheVariants as token
use Rattle.eq_vparse.specs.declared.item.Head.{Head}
use Rattle.eq_vparse.specs.declared.item.Head.TheVariants as head
use Rattle.eq_vparse.specs.declared.tree.DeclKind.TheVariants.{Input, Output}
use Rattle.eq_vparse.specs.declared.tree.GateKind.{GateKind}
use Rattle.eq_vparse.specs.declared.tree.GateKind.TheVariants.{And, Nand, Or, Nor, Xor, Xnor, Buf, Not}
use Rattle.eq_vparse.specs.declared.tree.Item.{Item}
use Rattle.eq_vparse.specs.declared.tree.Item.TheVariants.{Always, Init}
use Rattle.eq_vparse.specs.declared.tree.Range.{Range}
use Rattle.eq_vparse.specs.Limits.{Limits}
use Rattle.eq_vparse.specs.Tests.{is_mark, is_key}
use Rattle.eq_vparse.specs.Reading.{Reading, read, ◌>>=◌, takes_key}
use Rattle.eq_vparse.specs.Looping.{turn_until, repeat_until}
use Rattle.eq_vparse.specs.Rules as rule
use Rattle.eq_vparse.specs.Rules.{Rule, name, sized, mark, key, maybe, many, give, AreMany}
use Rattle.eq_vparse.specs.Targets.{range, index}
use Rattle.eq_vparse.specs.Statements.{target_within, stmt}
use Rattle.eq_vparse.specs.Grammar.{listed, clock_of, clock, init, item, gate}
use Rattle.eq_vparse.specs.TargetReading.{maybe_range_at, maybe_index_at}
use Rattle.eq_vparse.specs.StatementReading.{stmt_at}
use Rattle.eq_vparse.specs.ItemReading.{listed_at, inputs_at, outputs_if, outputs_at, regs_at, wires_at, instances_at, clock_at, always_at, init_at, inits_at, initial_if, initial_at, keyed_at, item_at}
use Rattle.eq_vparse.proofs.Looping.{Progresses}
use Rattle.eq_vparse.proofs.Agreement.{Sound, SoundBy, Chain, SoundInto, CompleteInto, Anything, name_sound, sized_sound, mark_sound, key_sound, done_sound, then_sound}
use Rattle.eq_vparse.proofs.Lists.{until_sound, until_complete, until_progress}
use Rattle.eq_vparse.proofs.TargetSentences.{NoBracket, target_sound, target_begins, target_long, maybe_range_sound, maybe_index_sound, maybe_index_complete}
use Rattle.eq_vparse.proofs.StatementSentences.{stmt_sound, stmt_complete, lift_any, no_key}
use Rattle.eq_vparse.proofs.Follows.{Next, NextKey, Skip, NoKey, skip_sound, skip_complete, within_skip, covers_skip, Within, Covers, Completes, completes, chained, chained_on, simply, given, at_last, before_mark, before_key, a_name, a_sized, a_mark, a_key, within_then, within_give, covers_then, covers_give, into_sound, into_complete}
use Rattle.eq_vparse.proofs.Connections.{push, put_all_push, append}
use Rattle.eq_vparse.proofs.Declarations.{target_before_equals}
use Rattle.eq_vparse.proofs.Listed.{entry_rule, listed_sound, listed_complete, BeginsWithWord, NextWord, word_no_bracket, listed_word, port_word, reg_word, output_reg_word, wire_word, a_range, ranged_no_key}

-- ---- what a reader puts behind, as a relation

abbrev pub Image : {A B : Type 0} → (A → B) → (List TokenKind → A → Type 0) → List TokenKind → B → Type 0
Image f G us b = (a : _) × G us a × (b ≡ f a)

pub image_within : {A B : Type 0} (f : A → B) (G : List TokenKind → A → Type 0) → Within f G (Image f G)
image_within f G us b h = h

pub image_covers : {A B : Type 0} (f : A → B) (G : List TokenKind → A → Type 0) → Covers f G (Image f G)
image_covers f G us a b h is = (a, h, is)

pub image_sound : {S A : Type 0} (g : Rule A) (put : S → A → S) (p : S → List TokenKind → Reading S) → SoundInto g put p → (s : S) → SoundBy (Image (put s) g.sentence) (p s)
image_sound g put p sound s ts b r e = (let h = sound s ts b r e in (h.0, h.2, (h.1, h.3, h.4)))

pub image_complete : {S A : Type 0} (g : Rule A) (put : S → A → S) (p : S → List TokenKind → Reading S) (F : List TokenKind → Type 0) → CompleteInto g put p F → (s : S) → Completes (Image (put s) g.sentence) (p s) F
image_complete g put p F complete s us b r ts h f is = ap (p s) is ∙ complete s us h.0 r h.1 f ∙ ap (λ x. read x r) (sym h.2)

-- ---- a range and a list

module _ (l : Limits) (h : Option Range → Head) (words : (r : Option Range) → BeginsWithWord (entry_rule l (h r))) where
  pub ranged : Rule (List Item)
  ranged = rule.◌>>=◌ (maybe range) (λ r. listed (entry_rule l (h r)))

  pub ranged_at : List Item → List TokenKind → Reading (List Item)
  ranged_at items = maybe_range_at >>= λ r. listed_at l (h r) items

  pub ranged_into : List Item → List TokenKind → List Item → Type 0
  ranged_into items = Chain (maybe range).sentence (λ r. Image (append items) (listed (entry_rule l (h r))).sentence)

  image_word : (items : List Item) (r : Option Range) (us : List TokenKind) (a : List Item) (rest : List TokenKind) → Image (append items) (listed (entry_rule l (h r))).sentence us a → NextWord (us ++ rest)
  image_word items r us a rest k = listed_word (entry_rule l (h r)) (words r) us k.0 rest k.1

  pub ranged_sound : SoundInto ranged append ranged_at
  unfolding ranged ranged_at ranged_into
  ranged_sound = into_sound ranged append ranged_into ranged_at
      (λ items. within_then (append items) _ _ _ (λ r. image_within (append items) (listed (entry_rule l (h r))).sentence))
      (λ items. then_sound _ _ _ _ maybe_range_sound (λ r. image_sound (listed (entry_rule l (h r))) append (listed_at l (h r)) (listed_sound l (h r)) items))

  ranged_completes : (items : List Item) → Completes (ranged_into items) (ranged_at items) Anything
  unfolding ranged_at ranged_into
  ranged_completes items = chained (maybe range).sentence _ _ _ NoBracket Anything a_range
      (λ r. image_complete (listed (entry_rule l (h r))) append (listed_at l (h r)) Anything (listed_complete l (h r)) items)
      (λ r vs b rest k f. word_no_bracket (vs ++ rest) (image_word items r vs b rest k))

  pub ranged_complete : CompleteInto ranged append ranged_at Anything
  unfolding ranged ranged_into
  ranged_complete = into_complete ranged append ranged_into ranged_at Anything
      (λ items. covers_then (append items) _ _ _ (λ r. image_covers (append items) (listed (entry_rule l (h r))).sentence)) ranged_completes

  -- ---- where `wire` may stand before it

  pub wired : Rule (List Item)
  wired = rule.◌>>=◌ (maybe (key word.Wire)) (λ _. ranged)

  pub wired_at : List Item → List TokenKind → Reading (List Item)
  wired_at items = takes_key word.Wire >>= λ _. ranged_at items

  pub wired_into : List Item → List TokenKind → List Item → Type 0
  wired_into items = Chain (Skip word.Wire) (λ _. ranged_into items)

  pub wired_sound : SoundInto wired append wired_at
  unfolding wired wired_at wired_into ranged ranged_at ranged_into
  wired_sound = into_sound wired append wired_into wired_at
      (λ items. within_skip word.Wire (append items) _ _ (within_then (append items) _ _ _ (λ r. image_within (append items) (listed (entry_rule l (h r))).sentence)))
      (λ items. then_sound _ _ _ _ (skip_sound word.Wire) (λ _. then_sound _ _ _ _ maybe_range_sound (λ r. image_sound (listed (entry_rule l (h r))) append (listed_at l (h r)) (listed_sound l (h r)) items)))

  into_no_key : (k : Key) (items : List Item) (us : List TokenKind) (a : List Item) (r : List TokenKind) → ranged_into items us a → is_key k (us ++ r) ≡ false
  unfolding ranged_into
  into_no_key k items us a r s = ranged_no_key k (λ x. Image (append items) (listed (entry_rule l (h x))).sentence) (image_word items) us a r s

  pub wired_completes : (items : List Item) → Completes (wired_into items) (wired_at items) Anything
  unfolding wired_at wired_into
  wired_completes items = chained_on (Skip word.Wire) (λ _. ranged_into items) (takes_key word.Wire) (λ _. ranged_at items) (NoKey word.Wire) Anything (skip_complete word.Wire) (λ _. ranged_completes items) follow
    where
      follow : (b : Bool) (vs : List TokenKind) (a : List Item) (r : List TokenKind) → ranged_into items vs a → Anything r → NoKey word.Wire b (vs ++ r)
      follow true vs a r k f = tt
      follow false vs a r k f = into_no_key word.Wire items vs a r k

  pub wired_complete : CompleteInto wired append wired_at Anything
  unfolding wired wired_into ranged ranged_into
  wired_complete = into_complete wired append wired_into wired_at Anything
      (λ items. covers_skip word.Wire (append items) _ _ (covers_then (append items) _ _ _ (λ r. image_covers (append items) (listed (entry_rule l (h r))).sentence))) wired_completes

  -- no `reg` begins it
  wired_first : (us : List TokenKind) (b : Bool) (vs : List TokenKind) (a : List Item) (items : List Item) (r : List TokenKind) → Skip word.Wire us b → ranged_into items vs a → is_key word.Reg (us ++ (vs ++ r)) ≡ false
  unfolding is_key
  wired_first us true vs a items r s k = rw s refl
  wired_first us false vs a items r s k = rw s (into_no_key word.Reg items vs a r k)

  wired_into_no_reg : (items : List Item) (us : List TokenKind) (a : List Item) (r : List TokenKind) → wired_into items us a → is_key word.Reg (us ++ r) ≡ false
  unfolding wired_into
  wired_into_no_reg items us a r s =
      subst (λ (x : List TokenKind). is_key word.Reg x ≡ false) (sym (append_assoc s.0 s.1 r) ∙ ap (λ (x : List TokenKind). x ++ r) (sym s.3)) (wired_first s.0 s.2 s.1 a items r s.4 s.5)

  pub wired_no_reg : (us : List TokenKind) (a : List Item) (r : List TokenKind) → wired.sentence us a → is_key word.Reg (us ++ r) ≡ false
  unfolding wired wired_into ranged ranged_into
  wired_no_reg us a r s =
      let c = covers_skip word.Wire (append []) (ranged.sentence) (ranged_into []) (covers_then (append []) _ _ _ (λ x. image_covers (append []) (listed (entry_rule l (h x))).sentence)) us a a s refl in
      wired_into_no_reg [] us a r c

-- ---- what stands behind each key

abbrev NoElse : List TokenKind → Type 0
NoElse ts = is_key word.Else ts ≡ false

-- behind `input`
inputs : Limits → Rule (List Item)
inputs l = wired l (λ r. head.Port Input r) (λ r. port_word Input r)

inputs_sound : (l : Limits) → SoundInto (inputs l) append (inputs_at l)
unfolding inputs inputs_at wired_at ranged_at
inputs_sound l = wired_sound l (λ r. head.Port Input r) (λ r. port_word Input r)

inputs_complete : (l : Limits) → CompleteInto (inputs l) append (inputs_at l) Anything
unfolding inputs inputs_at wired_at ranged_at
inputs_complete l = wired_complete l (λ r. head.Port Input r) (λ r. port_word Input r)

-- behind `output`, without `reg`
outputs : Limits → Rule (List Item)
outputs l = wired l (λ r. head.Port Output r) (λ r. port_word Output r)

-- behind `output reg`
output_regs : Limits → Rule (List Item)
output_regs l = ranged l (λ r. head.OutputReg r) output_reg_word

outputs_if_sound : (l : Limits) (b : Bool) → SoundInto (cond b (output_regs l) (outputs l)) append (outputs_if l b)
unfolding outputs output_regs outputs_if wired_at ranged_at
outputs_if_sound l true = ranged_sound l (λ r. head.OutputReg r) output_reg_word
outputs_if_sound l false = wired_sound l (λ r. head.Port Output r) (λ r. port_word Output r)

outputs_if_complete : (l : Limits) (b : Bool) → CompleteInto (cond b (output_regs l) (outputs l)) append (outputs_if l b) Anything
unfolding outputs output_regs outputs_if wired_at ranged_at
outputs_if_complete l true = ranged_complete l (λ r. head.OutputReg r) output_reg_word
outputs_if_complete l false = wired_complete l (λ r. head.Port Output r) (λ r. port_word Output r)

-- all that may stand behind `output`
abbrev all_outputs : Limits → Rule (List Item)
all_outputs l = rule.◌or◌ (outputs l) (rule.◌>>=◌ (key word.Reg) (λ _. output_regs l))

outputs_into : Limits → List Item → List TokenKind → List Item → Type 0
outputs_into l items = Chain (Skip word.Reg) (λ b. Image (append items) (cond b (output_regs l) (outputs l)).sentence)

outputs_in : (l : Limits) (items : List Item) (us : List TokenKind) (b : Bool) (vs : List TokenKind) (x : List Item) → Skip word.Reg us b → Image (append items) (cond b (output_regs l) (outputs l)).sentence vs x
    → Image (append items) (all_outputs l).sentence (us ++ vs) x
outputs_in l items us true vs x s h = (h.0, inr (us, vs, tt, refl, s, h.1), h.2)
outputs_in l items us false vs x s h = (h.0, inl (subst (λ (y : List TokenKind). (outputs l).sentence (y ++ vs) h.0) (sym s) h.1), h.2)

outputs_sound : (l : Limits) → SoundInto (all_outputs l) append (outputs_at l)
unfolding outputs_at outputs_into
outputs_sound l = into_sound (all_outputs l) append (outputs_into l) (outputs_at l)
    (λ items us x s. subst (λ (y : List TokenKind). Image (append items) (all_outputs l).sentence y x) (sym s.3) (outputs_in l items s.0 s.2 s.1 x s.4 s.5))
    (λ items. then_sound _ _ _ _ (skip_sound word.Reg) (λ b. image_sound (cond b (output_regs l) (outputs l)) append (outputs_if l b) (outputs_if_sound l b) items))

outputs_follow : (l : Limits) (items : List Item) (b : Bool) (vs : List TokenKind) (a : List Item) (r : List TokenKind) → Image (append items) (cond b (output_regs l) (outputs l)).sentence vs a → Anything r → NoKey word.Reg b (vs ++ r)
unfolding outputs
outputs_follow l items true vs a r k f = tt
outputs_follow l items false vs a r k f = wired_no_reg l (λ x. head.Port Output x) (λ x. port_word Output x) vs k.0 r k.1

outputs_completes : (l : Limits) (items : List Item) → Completes (outputs_into l items) (outputs_at l items) Anything
unfolding outputs_at outputs_into
outputs_completes l items = chained_on (Skip word.Reg) _ (takes_key word.Reg) (λ b. outputs_if l b items) (NoKey word.Reg) Anything (skip_complete word.Reg)
    (λ b. image_complete (cond b (output_regs l) (outputs l)) append (outputs_if l b) Anything (outputs_if_complete l b) items) (outputs_follow l items)

outputs_covers : (l : Limits) (items : List Item) → Covers (append items) (all_outputs l).sentence (outputs_into l items)
unfolding outputs_into
outputs_covers l items us a b (inl h) is = ([], us, false, refl, refl, (a, h, is))
outputs_covers l items us a b (inr h) is = (h.0, h.1, true, h.3, h.4, (a, h.5, is))

outputs_complete : (l : Limits) → CompleteInto (all_outputs l) append (outputs_at l) Anything
unfolding outputs_into
outputs_complete l = into_complete (all_outputs l) append (outputs_into l) (outputs_at l) Anything (outputs_covers l) (outputs_completes l)

-- behind `reg` and `wire`
regs : Limits → Rule (List Item)
regs l = ranged l (λ r. head.Reg r) reg_word

regs_sound : (l : Limits) → SoundInto (regs l) append (regs_at l)
unfolding regs regs_at ranged_at
regs_sound l = ranged_sound l (λ r. head.Reg r) reg_word

regs_complete : (l : Limits) → CompleteInto (regs l) append (regs_at l) Anything
unfolding regs regs_at ranged_at
regs_complete l = ranged_complete l (λ r. head.Reg r) reg_word

wires : Limits → Rule (List Item)
wires l = ranged l (λ r. head.Wire r) (wire_word l)

wires_sound : (l : Limits) → SoundInto (wires l) append (wires_at l)
unfolding wires wires_at ranged_at
wires_sound l = ranged_sound l (λ r. head.Wire r) (wire_word l)

wires_complete : (l : Limits) → CompleteInto (wires l) append (wires_at l) Anything
unfolding wires wires_at ranged_at
wires_complete l = ranged_complete l (λ r. head.Wire r) (wire_word l)

-- instances, the module's name included
instances : Limits → Rule (List Item)
instances l = rule.◌>>=◌ name (λ m. listed (entry_rule l (head.Instance m)))

instances_into : Limits → List Item → List TokenKind → List Item → Type 0
instances_into l items = Chain name.sentence (λ m. Image (append items) (listed (entry_rule l (head.Instance m))).sentence)

instances_sound : (l : Limits) → SoundInto (instances l) append (instances_at l)
unfolding instances instances_at instances_into
instances_sound l = into_sound (instances l) append (instances_into l) (instances_at l)
    (λ items. within_then (append items) _ _ _ (λ m. image_within (append items) (listed (entry_rule l (head.Instance m))).sentence))
    (λ items. then_sound _ _ _ _ name_sound (λ m. image_sound (listed (entry_rule l (head.Instance m))) append (listed_at l (head.Instance m)) (listed_sound l (head.Instance m)) items))

instances_complete : (l : Limits) → CompleteInto (instances l) append (instances_at l) Anything
unfolding instances instances_at instances_into
instances_complete l = into_complete (instances l) append (instances_into l) (instances_at l) Anything
    (λ items. covers_then (append items) _ _ _ (λ m. image_covers (append items) (listed (entry_rule l (head.Instance m))).sentence))
    (λ items. simply _ _ _ _ _ a_name (λ m. image_complete (listed (entry_rule l (head.Instance m))) append (listed_at l (head.Instance m)) Anything (listed_complete l (head.Instance m)) items))

-- ---- always

a_clock_index : Completes (maybe index).sentence maybe_index_at NoBracket
a_clock_index = completes (maybe index).sentence maybe_index_at NoBracket maybe_index_complete

paren_no_bracket : (ts : List TokenKind) → Next RightParen ts → NoBracket ts
unfolding is_mark
paren_no_bracket ts f = rw (f.1) refl

clock_sound : Sound clock clock_at
unfolding clock_at
clock_sound = then_sound _ _ _ _ name_sound (λ n. then_sound _ _ _ _ maybe_index_sound (λ d. done_sound (clock_of n d)))

a_clock : Completes clock.sentence clock_at (Next RightParen)
unfolding clock_at
a_clock = simply _ _ _ _ (Next RightParen) a_name (λ n. at_last _ _ (clock_of n) (Next RightParen) (λ us d r ts h f is. a_clock_index us d r ts h (paren_no_bracket r f) is))

body_sound : (l : Limits) → SoundBy (stmt l).sentence (stmt_at l (suc l.levels))
body_sound l ts s r e =
    let h = stmt_sound l (suc l.levels) ts s r e in
    (h.0, h.1, lift_any l (suc l.levels) (not (is_key word.Else r)) h.0 s h.2)

a_body : (l : Limits) → Completes (stmt l).sentence (stmt_at l (suc l.levels)) NoElse
a_body l = completes (stmt l).sentence (stmt_at l (suc l.levels)) NoElse (λ us s r h f. stmt_complete l (suc l.levels) true us s r h (λ _. f))

-- behind `always`
abbrev always : Limits → Rule (List Item)
always l =
    rule.◌>>=◌ (mark At) (λ _. rule.◌>>=◌ (mark LeftParen) (λ _. rule.◌>>=◌ (key word.Posedge) (λ _. rule.◌>>=◌ clock (λ c. rule.◌>>=◌ (mark RightParen) (λ _. rule.◌>>=◌ (stmt l) (λ s. give (Always c s ∷ [])))))))

always_into : Limits → List Item → Rule (List Item)
always_into l items =
    rule.◌>>=◌ (mark At) (λ _. rule.◌>>=◌ (mark LeftParen) (λ _. rule.◌>>=◌ (key word.Posedge) (λ _. rule.◌>>=◌ clock (λ c. rule.◌>>=◌ (mark RightParen) (λ _. rule.◌>>=◌ (stmt l) (λ s. give (items ++ Always c s ∷ [])))))))

always_sound : (l : Limits) → SoundInto (always l) append (always_at l)
unfolding always_at always_into
always_sound l = into_sound (always l) append (λ items. (always_into l items).sentence) (always_at l)
    (λ items. within_then (append items) _ _ _ (λ _. within_then (append items) _ _ _ (λ _. within_then (append items) _ _ _ (λ _. within_then (append items) _ _ _ (λ c. within_then (append items) _ _ _ (λ _. within_then (append items) _ _ _ (λ s. within_give (append items) _ _ refl)))))))
    (λ items. then_sound _ _ _ _ (mark_sound At) (λ _. then_sound _ _ _ _ (mark_sound LeftParen) (λ _. then_sound _ _ _ _ (key_sound word.Posedge) (λ _. then_sound _ _ _ _ clock_sound (λ c. then_sound _ _ _ _ (mark_sound RightParen) (λ _. then_sound _ _ _ _ (body_sound l) (λ s. done_sound _)))))))

always_complete : (l : Limits) → CompleteInto (always l) append (always_at l) NoElse
unfolding always_at always_into
always_complete l = into_complete (always l) append (λ items. (always_into l items).sentence) (always_at l) NoElse
    (λ items. covers_then (append items) _ _ _ (λ _. covers_then (append items) _ _ _ (λ _. covers_then (append items) _ _ _ (λ _. covers_then (append items) _ _ _ (λ c. covers_then (append items) _ _ _ (λ _. covers_then (append items) _ _ _ (λ s. covers_give (append items) _ _ refl)))))))
    (λ items. simply _ _ _ _ _ (a_mark At) (λ _. simply _ _ _ _ _ (a_mark LeftParen) (λ _. simply _ _ _ _ _ (a_key word.Posedge) (λ _. before_mark RightParen _ _ _ _ NoElse a_clock (λ c. simply _ _ _ _ _ (a_mark RightParen) (λ _. at_last _ _ _ NoElse (a_body l)))))))

-- ---- initial values

init_into : Limits → List Item → Rule (List Item)
init_into l items = rule.◌>>=◌ (target_within l) (λ t. rule.◌>>=◌ (mark Equals) (λ _. rule.◌>>=◌ sized (λ c. rule.◌>>=◌ (mark Semicolon) (λ _. give (items ++ Init t c ∷ [])))))

init_sound : (l : Limits) → SoundInto (init l) push (init_at l)
unfolding init_at init_into
init_sound l = into_sound (init l) push (λ items. (init_into l items).sentence) (init_at l)
    (λ items. within_then (push items) _ _ _ (λ t. within_then (push items) _ _ _ (λ _. within_then (push items) _ _ _ (λ c. within_then (push items) _ _ _ (λ _. within_give (push items) _ _ refl)))))
    (λ items. then_sound _ _ _ _ (target_sound l.marks) (λ t. then_sound _ _ _ _ (mark_sound Equals) (λ _. then_sound _ _ _ _ sized_sound (λ c. then_sound _ _ _ _ (mark_sound Semicolon) (λ _. done_sound _)))))

init_complete : (l : Limits) → CompleteInto (init l) push (init_at l) Anything
unfolding init_at init_into
init_complete l = into_complete (init l) push (λ items. (init_into l items).sentence) (init_at l) Anything
    (λ items. covers_then (push items) _ _ _ (λ t. covers_then (push items) _ _ _ (λ _. covers_then (push items) _ _ _ (λ c. covers_then (push items) _ _ _ (λ _. covers_give (push items) _ _ refl)))))
    (λ items. before_mark Equals _ _ _ _ Anything (target_before_equals l) (λ t. simply _ _ _ _ _ (a_mark Equals) (λ _. simply _ _ _ _ _ a_sized (λ c. simply _ _ _ _ _ (a_mark Semicolon) (λ _. given _ Anything)))))

init_no_key : (l : Limits) (k : Key) (us : List TokenKind) (a : Item) (r : List TokenKind) → (init l).sentence us a → is_key k (us ++ r) ≡ false
init_no_key l k us a r s =
    let b = no_key k (s.0 ++ (s.1 ++ r)) (target_begins s.0 s.2 (s.1 ++ r) s.4.0) in
    subst (λ (x : List TokenKind). is_key k x ≡ false) (sym (append_assoc s.0 s.1 r) ∙ ap (λ (x : List TokenKind). x ++ r) (sym s.3)) b

init_some : (l : Limits) (us : List TokenKind) (a : Item) → (init l).sentence us a → 0 < length us
init_some l us a s =
    let long = target_long s.0 s.2 s.4.0 in
    let whole : length us ≡ length s.0 + length s.1 = ap length s.3 ∙ length-append s.0 s.1 in
    omega (arith, long, whole)

pub init_progress : (l : Limits) → Progresses (turn_until (is_key word.End) (init_at l))
init_progress l = until_progress (init l) push (init_at l) (is_key word.End) (init_sound l) (init_some l)

Inits : Limits → List Item → List TokenKind → List Item → Type 0
Inits l items us all = (list : List Item) × AreMany (init l) us list × (all ≡ items ++ list)

inits_sound : (l : Limits) (items : List Item) → SoundBy (Inits l items) (inits_at l items)
unfolding inits_at Inits
inits_sound l items ts all r e =
    let h = until_sound (init l) push (init_at l) (is_key word.End) (init_sound l) items ts all r e in
    (h.0, h.2, (h.1, h.3, h.4 ∙ put_all_push items h.1))

end_stops : (r : List TokenKind) → NextKey word.End r → is_key word.End r ≡ true
unfolding is_key
end_stops r f = rw (f.1) refl

inits_complete : (l : Limits) (items : List Item) → Completes (Inits l items) (inits_at l items) (NextKey word.End)
unfolding inits_at Inits
inits_complete l items us all r ts h f is =
    ap (repeat_until (is_key word.End) (init_at l) items) is
    ∙ until_complete (init l) push (init_at l) (is_key word.End) Anything (NextKey word.End) (init_complete l) (init_no_key l word.End) (init_some l) (λ vs list x m g. tt) end_stops items us h.0 r h.1 f
    ∙ ap (λ x. read x r) (put_all_push items h.0 ∙ sym h.2)

-- behind `initial`
abbrev one_init : Limits → Rule (List Item)
one_init l = rule.◌>>=◌ (init l) (λ i. give (i ∷ []))

abbrev some_inits : Limits → Rule (List Item)
some_inits l = rule.◌>>=◌ (many (init l)) (λ list. rule.◌>>=◌ (key word.End) (λ _. give list))

some_inits_into : Limits → List Item → List TokenKind → List Item → Type 0
some_inits_into l items = Chain (Inits l items) (λ all. Chain (key word.End).sentence (λ _. (give all).sentence))

abbrev initial_rule : Limits → Bool → Rule (List Item)
initial_rule l true = some_inits l
initial_rule l false = one_init l

one_init_sound : (l : Limits) → SoundInto (one_init l) append (init_at l)
one_init_sound l items ts all r e =
    let h = init_sound l items ts all r e in
    (h.0, h.1 ∷ [], h.2, (h.0, [], h.1, sym (append-nil h.0), h.3, (refl, refl)), h.4)

one_init_complete : (l : Limits) → CompleteInto (one_init l) append (init_at l) Anything
one_init_complete l items us a r s f =
    let end : us ≡ s.0 = s.3 ∙ ap (λ (x : List TokenKind). s.0 ++ x) s.5.0 ∙ append-nil s.0 in
    ap (λ (x : List TokenKind). init_at l items (x ++ r)) end ∙ init_complete l items s.0 s.2 r s.4 tt ∙ ap (λ x. read (items ++ x) r) (sym s.5.1)

initial_if_sound : (l : Limits) (b : Bool) → SoundInto (initial_rule l b) append (initial_if l b)
unfolding initial_if some_inits_into Inits
initial_if_sound l true = into_sound (some_inits l) append (some_inits_into l) (initial_if l true)
    (λ items us b s. (let k = s.5 in (s.4.0, (s.0, s.1, s.4.0, s.3, s.4.1, (k.0, k.1, k.2, k.3, k.4, (k.5.0, refl))), k.5.1 ∙ s.4.2)))
    (λ items. then_sound (Inits l items) _ _ _ (inits_sound l items) (λ all. then_sound _ _ _ _ (key_sound word.End) (λ _. done_sound all)))
initial_if_sound l false = one_init_sound l

initial_if_complete : (l : Limits) (b : Bool) → CompleteInto (initial_rule l b) append (initial_if l b) Anything
unfolding initial_if some_inits_into Inits
initial_if_complete l true = into_complete (some_inits l) append (some_inits_into l) (initial_if l true) Anything
    (λ items us a b s is. (let k = s.5 in (s.0, s.1, items ++ s.2, s.3, (s.2, s.4, refl), (k.0, k.1, k.2, k.3, k.4, (k.5.0, is ∙ ap (append items) k.5.1)))))
    (λ items. before_key word.End (Inits l items) _ _ _ Anything (inits_complete l items) (λ all. simply _ _ _ _ Anything (a_key word.End) (λ _. given all Anything)))
initial_if_complete l false = one_init_complete l

-- all that may stand behind `initial`
abbrev initial : Limits → Rule (List Item)
initial l = rule.◌or◌ (one_init l) (rule.◌>>=◌ (key word.Begin) (λ _. some_inits l))

initial_into : Limits → List Item → List TokenKind → List Item → Type 0
initial_into l items = Chain (Skip word.Begin) (λ b. Image (append items) (initial_rule l b).sentence)

initial_in : (l : Limits) (items : List Item) (us : List TokenKind) (b : Bool) (vs : List TokenKind) (x : List Item) → Skip word.Begin us b → Image (append items) (initial_rule l b).sentence vs x
    → Image (append items) (initial l).sentence (us ++ vs) x
initial_in l items us true vs x s h = (h.0, inr (us, vs, tt, refl, s, h.1), h.2)
initial_in l items us false vs x s h = (h.0, inl (subst (λ (y : List TokenKind). (one_init l).sentence (y ++ vs) h.0) (sym s) h.1), h.2)

initial_sound : (l : Limits) → SoundInto (initial l) append (initial_at l)
unfolding initial_at initial_into
initial_sound l = into_sound (initial l) append (initial_into l) (initial_at l)
    (λ items us x s. subst (λ (y : List TokenKind). Image (append items) (initial l).sentence y x) (sym s.3) (initial_in l items s.0 s.2 s.1 x s.4 s.5))
    (λ items. then_sound _ _ _ _ (skip_sound word.Begin) (λ b. image_sound (initial_rule l b) append (initial_if l b) (initial_if_sound l b) items))

initial_follow : (l : Limits) (items : List Item) (b : Bool) (vs : List TokenKind) (a : List Item) (r : List TokenKind) → Image (append items) (initial_rule l b).sentence vs a → Anything r → NoKey word.Begin b (vs ++ r)
initial_follow l items true vs a r k f = tt
initial_follow l items false vs a r k f =
    let s = k.1 in
    let b = init_no_key l word.Begin s.0 s.2 (s.1 ++ r) s.4 in
    subst (λ (x : List TokenKind). is_key word.Begin x ≡ false) (sym (append_assoc s.0 s.1 r) ∙ ap (λ (x : List TokenKind). x ++ r) (sym s.3)) b

initial_covers : (l : Limits) (items : List Item) → Covers (append items) (initial l).sentence (initial_into l items)
unfolding initial_into
initial_covers l items us a b (inl h) is = ([], us, false, refl, refl, (a, h, is))
initial_covers l items us a b (inr h) is = (h.0, h.1, true, h.3, h.4, (a, h.5, is))

initial_complete : (l : Limits) → CompleteInto (initial l) append (initial_at l) Anything
unfolding initial_at initial_into
initial_complete l = into_complete (initial l) append (initial_into l) (initial_at l) Anything (initial_covers l)
    (λ items. chained_on (Skip word.Begin) _ (takes_key word.Begin) (λ b. initial_if l b items) (NoKey word.Begin) Anything (skip_complete word.Begin)
    (λ b. image_complete (initial_rule l b) append (initial_if l b) Anything (initial_if_complete l b) items) (initial_follow l items))

-- ---- items

behind_key : {A : Type 0} (k : Key) (g : Rule A) (us : List TokenKind) (a : A) → g.sentence us a → (rule.◌>>=◌ (key k) (λ _. g)).sentence (token.Key k ∷ us) a
behind_key k g us a h = (token.Key k ∷ [], us, tt, refl, refl, h)

-- what is read behind a key, with the key before it
with_key : (l : Limits) (k : Key) (g : Rule (List Item)) (p : List Item → List TokenKind → Reading (List Item)) → SoundInto g append p
    → ((us : List TokenKind) (a : List Item) → g.sentence us a → (item l).sentence (token.Key k ∷ us) a)
    → (items : List Item) (ts : List TokenKind) (all : List Item) (r : List TokenKind) → p items ts ≡ read all r
    → (us : List TokenKind) × (a : List Item) × (token.Key k ∷ ts ≡ us ++ r) × (item l).sentence us a × (all ≡ append items a)
with_key l k g p sound goes items ts all r e =
    let h = sound items ts all r e in
    (token.Key k ∷ h.0, h.1, ap (λ (x : List TokenKind). token.Key k ∷ x) h.2, goes h.0 h.1 h.3, h.4)

outputs_item : (l : Limits) (us : List TokenKind) (a : List Item) → (all_outputs l).sentence us a → (item l).sentence (token.Key word.Output ∷ us) a
unfolding outputs output_regs wired ranged
outputs_item l us a (inl h) = inr (inl (token.Key word.Output ∷ [], us, tt, refl, refl, h))
outputs_item l us a (inr h) = inr (inr (inl (token.Key word.Output ∷ [], us, tt, refl, refl, h)))

initial_item : (l : Limits) (us : List TokenKind) (a : List Item) → (initial l).sentence us a → (item l).sentence (token.Key word.Initial ∷ us) a
initial_item l us a (inl h) = inr (inr (inr (inr (inr (inr (inr (inr (inr (inl (token.Key word.Initial ∷ [], us, tt, refl, refl, h))))))))))
initial_item l us a (inr h) = inr (inr (inr (inr (inr (inr (inr (inr (inr (inr (token.Key word.Initial ∷ [], us, tt, refl, refl, h))))))))))

gate_item : (l : Limits) (k : Key) (g : GateKind) → gate.sentence (token.Key k ∷ []) g → (us : List TokenKind) (a : List Item) → (listed (entry_rule l (head.Gate g))).sentence us a → (item l).sentence (token.Key k ∷ us) a
gate_item l k g is us a h = inr (inr (inr (inr (inr (inr (inl (token.Key k ∷ [], us, g, refl, is, h)))))))

a_gate : (k : Key) (g : GateKind) → (rule.◌>>=◌ (key k) (λ _. give g)).sentence (token.Key k ∷ []) g
a_gate k g = (token.Key k ∷ [], [], tt, refl, refl, (refl, refl))

gate_read : (l : Limits) (k : Key) (g : GateKind) → gate.sentence (token.Key k ∷ []) g → (items : List Item) (ts : List TokenKind) (all : List Item) (r : List TokenKind) → listed_at l (head.Gate g) items ts ≡ read all r
    → (us : List TokenKind) × (a : List Item) × (token.Key k ∷ ts ≡ us ++ r) × (item l).sentence us a × (all ≡ append items a)
gate_read l k g is = with_key l k (listed (entry_rule l (head.Gate g))) (listed_at l (head.Gate g)) (listed_sound l (head.Gate g)) (gate_item l k g is)

keyed_sound : (l : Limits) (k : Key) (items : List Item) (ts : List TokenKind) (all : List Item) (r : List TokenKind) → keyed_at l k items (token.Key k ∷ ts) ≡ read all r
    → (us : List TokenKind) × (a : List Item) × (token.Key k ∷ ts ≡ us ++ r) × (item l).sentence us a × (all ≡ append items a)
unfolding keyed_at inputs regs wires wired ranged
keyed_sound l word.Input items ts all r e = with_key l word.Input (inputs l) (inputs_at l) (inputs_sound l) (λ us a h. inl (behind_key word.Input (inputs l) us a h)) items ts all r e
keyed_sound l word.Output items ts all r e = with_key l word.Output (all_outputs l) (outputs_at l) (outputs_sound l) (outputs_item l) items ts all r e
keyed_sound l word.Reg items ts all r e = with_key l word.Reg (regs l) (regs_at l) (regs_sound l) (λ us a h. inr (inr (inr (inl (behind_key word.Reg (regs l) us a h))))) items ts all r e
keyed_sound l word.Wire items ts all r e = with_key l word.Wire (wires l) (wires_at l) (wires_sound l) (λ us a h. inr (inr (inr (inr (inl (behind_key word.Wire (wires l) us a h)))))) items ts all r e
keyed_sound l word.Assign items ts all r e =
    with_key l word.Assign (listed (entry_rule l head.Assign)) (listed_at l head.Assign) (listed_sound l head.Assign) (λ us a h. inr (inr (inr (inr (inr (inl (behind_key word.Assign (listed (entry_rule l head.Assign)) us a h))))))) items ts all r e
keyed_sound l word.And items ts all r e = gate_read l word.And And (inl (a_gate word.And And)) items ts all r e
keyed_sound l word.Nand items ts all r e = gate_read l word.Nand Nand (inr (inl (a_gate word.Nand Nand))) items ts all r e
keyed_sound l word.Or items ts all r e = gate_read l word.Or Or (inr (inr (inl (a_gate word.Or Or)))) items ts all r e
keyed_sound l word.Nor items ts all r e = gate_read l word.Nor Nor (inr (inr (inr (inl (a_gate word.Nor Nor))))) items ts all r e
keyed_sound l word.Xor items ts all r e = gate_read l word.Xor Xor (inr (inr (inr (inr (inl (a_gate word.Xor Xor)))))) items ts all r e
keyed_sound l word.Xnor items ts all r e = gate_read l word.Xnor Xnor (inr (inr (inr (inr (inr (inl (a_gate word.Xnor Xnor))))))) items ts all r e
keyed_sound l word.Buf items ts all r e = gate_read l word.Buf Buf (inr (inr (inr (inr (inr (inr (inl (a_gate word.Buf Buf)))))))) items ts all r e
keyed_sound l word.Not items ts all r e = gate_read l word.Not Not (inr (inr (inr (inr (inr (inr (inr (a_gate word.Not Not)))))))) items ts all r e
keyed_sound l word.Always items ts all r e =
    with_key l word.Always (always l) (always_at l) (always_sound l) (λ us a h. inr (inr (inr (inr (inr (inr (inr (inr (inl (behind_key word.Always (always l) us a h)))))))))) items ts all r e
keyed_sound l word.Initial items ts all r e = with_key l word.Initial (initial l) (initial_at l) (initial_sound l) (initial_item l) items ts all r e
keyed_sound l _ items ts all r e = absurd cc

word_sound : (l : Limits) (items : List Item) (ts : List TokenKind) (all : List Item) (r : List TokenKind) → instances_at l items ts ≡ read all r
    → (us : List TokenKind) × (a : List Item) × (ts ≡ us ++ r) × (item l).sentence us a × (all ≡ append items a)
unfolding instances
word_sound l items ts all r e =
    let h = instances_sound l items ts all r e in
    (h.0, h.1, h.2, inr (inr (inr (inr (inr (inr (inr (inl h.3))))))), h.4)

pub item_sound : (l : Limits) → SoundInto (item l) append (item_at l)
unfolding item_at
item_sound l items (token.Key k ∷ ts) all r e = keyed_sound l k items ts all r e
item_sound l items [] all r e = word_sound l items [] all r e
item_sound l items (token.Word n ∷ ts) all r e = word_sound l items (token.Word n ∷ ts) all r e
item_sound l items (token.Mark n ∷ ts) all r e = word_sound l items (token.Mark n ∷ ts) all r e
item_sound l items (token.Decimal n ∷ ts) all r e = word_sound l items (token.Decimal n ∷ ts) all r e
item_sound l items (token.Sized n ∷ ts) all r e = word_sound l items (token.Sized n ∷ ts) all r e

-- ---- and what the grammar says is read

key_first : {A : Type 0} (k : Key) (g : Rule A) (us : List TokenKind) (a : A) → (rule.◌>>=◌ (key k) (λ _. g)).sentence us a → (vs : List TokenKind) × (us ≡ token.Key k ∷ vs) × g.sentence vs a
key_first k g us a h = (h.1, h.3 ∙ ap (λ (x : List TokenKind). x ++ h.1) h.4, h.5)

gate_first : (k : Key) (g : GateKind) (us : List TokenKind) (a : GateKind) → (rule.◌>>=◌ (key k) (λ _. give g)).sentence us a → (us ≡ token.Key k ∷ []) × (a ≡ g)
gate_first k g us a h = (h.3 ∙ ap (λ (x : List TokenKind). x ++ h.1) h.4 ∙ ap (λ (x : List TokenKind). token.Key k ∷ x) h.5.0, h.5.1)

gates_complete : (l : Limits) (k : Key) (g : GateKind) (items : List Item) (us vs : List TokenKind) (b : GateKind) (a : List Item) (r : List TokenKind)
    → ((ts : List TokenKind) → item_at l items (token.Key k ∷ ts) ≡ listed_at l (head.Gate g) items ts)
    → (rule.◌>>=◌ (key k) (λ _. give g)).sentence us b → (listed (entry_rule l (head.Gate b))).sentence vs a → item_at l items ((us ++ vs) ++ r) ≡ read (append items a) r
gates_complete l k g items us vs b a r starts s h =
    let f = gate_first k g us b s in
    let h' : (listed (entry_rule l (head.Gate g))).sentence vs a = subst (λ x. (listed (entry_rule l (head.Gate x))).sentence vs a) f.1 h in
    ap (λ (x : List TokenKind). item_at l items ((x ++ vs) ++ r)) f.0 ∙ starts (vs ++ r) ∙ listed_complete l (head.Gate g) items vs a r h' tt

gate_complete : (l : Limits) (items : List Item) (us vs : List TokenKind) (g : GateKind) (a : List Item) (r : List TokenKind) → gate.sentence us g → (listed (entry_rule l (head.Gate g))).sentence vs a → item_at l items ((us ++ vs) ++ r) ≡ read (append items a) r
unfolding item_at keyed_at
gate_complete l items us vs g a r (inl s) h = gates_complete l word.And And items us vs g a r (λ ts. refl) s h
gate_complete l items us vs g a r (inr (inl s)) h = gates_complete l word.Nand Nand items us vs g a r (λ ts. refl) s h
gate_complete l items us vs g a r (inr (inr (inl s))) h = gates_complete l word.Or Or items us vs g a r (λ ts. refl) s h
gate_complete l items us vs g a r (inr (inr (inr (inl s)))) h = gates_complete l word.Nor Nor items us vs g a r (λ ts. refl) s h
gate_complete l items us vs g a r (inr (inr (inr (inr (inl s))))) h = gates_complete l word.Xor Xor items us vs g a r (λ ts. refl) s h
gate_complete l items us vs g a r (inr (inr (inr (inr (inr (inl s)))))) h = gates_complete l word.Xnor Xnor items us vs g a r (λ ts. refl) s h
gate_complete l items us vs g a r (inr (inr (inr (inr (inr (inr (inl s))))))) h = gates_complete l word.Buf Buf items us vs g a r (λ ts. refl) s h
gate_complete l items us vs g a r (inr (inr (inr (inr (inr (inr (inr s))))))) h = gates_complete l word.Not Not items us vs g a r (λ ts. refl) s h

-- a key, and what stands behind it
keyed_complete : {F : List TokenKind → Type 0} (l : Limits) (k : Key) (g : Rule (List Item)) (p : List Item → List TokenKind → Reading (List Item)) → CompleteInto g append p F
    → (items : List Item) → ((ts : List TokenKind) → item_at l items (token.Key k ∷ ts) ≡ p items ts)
    → (us : List TokenKind) (a : List Item) (r : List TokenKind) → (rule.◌>>=◌ (key k) (λ _. g)).sentence us a → F r → item_at l items (us ++ r) ≡ read (append items a) r
keyed_complete l k g p complete items starts us a r h f =
    let w = key_first k g us a h in
    ap (λ (x : List TokenKind). item_at l items (x ++ r)) w.1 ∙ starts (w.0 ++ r) ∙ complete items w.0 a r w.2 f

pub item_complete : (l : Limits) → CompleteInto (item l) append (item_at l) NoElse
unfolding item_at keyed_at inputs outputs output_regs regs wires instances wired ranged
item_complete l items us a r (inl h) f = keyed_complete l word.Input (inputs l) (inputs_at l) (inputs_complete l) items (λ ts. refl) us a r h tt
item_complete l items us a r (inr (inl h)) f =
    keyed_complete l word.Output (all_outputs l) (outputs_at l) (outputs_complete l) items (λ ts. refl) us a r (h.0, h.1, h.2, h.3, h.4, inl h.5) tt
item_complete l items us a r (inr (inr (inl h))) f =
    keyed_complete l word.Output (all_outputs l) (outputs_at l) (outputs_complete l) items (λ ts. refl) us a r (h.0, h.1, h.2, h.3, h.4, inr h.5) tt
item_complete l items us a r (inr (inr (inr (inl h)))) f = keyed_complete l word.Reg (regs l) (regs_at l) (regs_complete l) items (λ ts. refl) us a r h tt
item_complete l items us a r (inr (inr (inr (inr (inl h))))) f = keyed_complete l word.Wire (wires l) (wires_at l) (wires_complete l) items (λ ts. refl) us a r h tt
item_complete l items us a r (inr (inr (inr (inr (inr (inl h)))))) f =
    keyed_complete l word.Assign (listed (entry_rule l head.Assign)) (listed_at l head.Assign) (listed_complete l head.Assign) items (λ ts. refl) us a r h tt
item_complete l items us a r (inr (inr (inr (inr (inr (inr (inl h))))))) f =
    ap (λ (x : List TokenKind). item_at l items (x ++ r)) h.3 ∙ gate_complete l items h.0 h.1 h.2 a r h.4 h.5
item_complete l items us a r (inr (inr (inr (inr (inr (inr (inr (inl h)))))))) f =
    let first : us ≡ token.Word h.2 ∷ h.1 = h.3 ∙ ap (λ (x : List TokenKind). x ++ h.1) h.4 in
    let whole : (instances l).sentence (token.Word h.2 ∷ h.1) a = (token.Word h.2 ∷ [], h.1, h.2, refl, refl, h.5) in
    ap (λ (x : List TokenKind). item_at l items (x ++ r)) first ∙ instances_complete l items (token.Word h.2 ∷ h.1) a r whole tt
item_complete l items us a r (inr (inr (inr (inr (inr (inr (inr (inr (inl h))))))))) f = keyed_complete l word.Always (always l) (always_at l) (always_complete l) items (λ ts. refl) us a r h f
item_complete l items us a r (inr (inr (inr (inr (inr (inr (inr (inr (inr (inl h)))))))))) f =
    keyed_complete l word.Initial (initial l) (initial_at l) (initial_complete l) items (λ ts. refl) us a r (h.0, h.1, h.2, h.3, h.4, inl h.5) tt
item_complete l items us a r (inr (inr (inr (inr (inr (inr (inr (inr (inr (inr h)))))))))) f =
    keyed_complete l word.Initial (initial l) (initial_at l) (initial_complete l) items (λ ts. refl) us a r (h.0, h.1, h.2, h.3, h.4, inr h.5) tt

-- ---- how an item begins

-- neither `endmodule` nor `else`
abbrev IsFirst : TokenKind → Type 0
IsFirst t = (is_key word.Endmodule (t ∷ []) ≡ false) × (is_key word.Else (t ∷ []) ≡ false)

abbrev Begun : List TokenKind → Type 0
Begun us = (t : TokenKind) × (vs : List TokenKind) × (us ≡ t ∷ vs) × IsFirst t

begun_key : {A : Type 0} (k : Key) (g : Rule A) (us : List TokenKind) (a : A) → IsFirst (token.Key k) → (rule.◌>>=◌ (key k) (λ _. g)).sentence us a → Begun us
begun_key k g us a first h = (let w = key_first k g us a h in (token.Key k, w.0, w.1, first))

begun_gate : (us : List TokenKind) (g : GateKind) → gate.sentence us g → Begun us
unfolding is_key
begun_gate us g (inl s) = begun_key word.And (give And) us g (refl, refl) s
begun_gate us g (inr (inl s)) = begun_key word.Nand (give Nand) us g (refl, refl) s
begun_gate us g (inr (inr (inl s))) = begun_key word.Or (give Or) us g (refl, refl) s
begun_gate us g (inr (inr (inr (inl s)))) = begun_key word.Nor (give Nor) us g (refl, refl) s
begun_gate us g (inr (inr (inr (inr (inl s))))) = begun_key word.Xor (give Xor) us g (refl, refl) s
begun_gate us g (inr (inr (inr (inr (inr (inl s)))))) = begun_key word.Xnor (give Xnor) us g (refl, refl) s
begun_gate us g (inr (inr (inr (inr (inr (inr (inl s))))))) = begun_key word.Buf (give Buf) us g (refl, refl) s
begun_gate us g (inr (inr (inr (inr (inr (inr (inr s))))))) = begun_key word.Not (give Not) us g (refl, refl) s

begun_more : (ts us vs : List TokenKind) → ts ≡ us ++ vs → Begun us → Begun ts
begun_more ts us vs is b = (b.0, b.1 ++ vs, is ∙ ap (λ (x : List TokenKind). x ++ vs) b.2, b.3)

item_begun : (l : Limits) (us : List TokenKind) (a : List Item) → (item l).sentence us a → Begun us
unfolding is_key inputs outputs output_regs regs wires wired ranged
item_begun l us a (inl h) = begun_key word.Input (inputs l) us a (refl, refl) h
item_begun l us a (inr (inl h)) = begun_key word.Output (outputs l) us a (refl, refl) h
item_begun l us a (inr (inr (inl h))) = begun_key word.Output (rule.◌>>=◌ (key word.Reg) (λ _. output_regs l)) us a (refl, refl) h
item_begun l us a (inr (inr (inr (inl h)))) = begun_key word.Reg (regs l) us a (refl, refl) h
item_begun l us a (inr (inr (inr (inr (inl h))))) = begun_key word.Wire (wires l) us a (refl, refl) h
item_begun l us a (inr (inr (inr (inr (inr (inl h)))))) = begun_key word.Assign (listed (entry_rule l head.Assign)) us a (refl, refl) h
item_begun l us a (inr (inr (inr (inr (inr (inr (inl h))))))) = begun_more us h.0 h.1 h.3 (begun_gate h.0 h.2 h.4)
item_begun l us a (inr (inr (inr (inr (inr (inr (inr (inl h)))))))) = (token.Word h.2, h.1, h.3 ∙ ap (λ (x : List TokenKind). x ++ h.1) h.4, (refl, refl))
item_begun l us a (inr (inr (inr (inr (inr (inr (inr (inr (inl h))))))))) = begun_key word.Always (always l) us a (refl, refl) h
item_begun l us a (inr (inr (inr (inr (inr (inr (inr (inr (inr (inl h)))))))))) = begun_key word.Initial (one_init l) us a (refl, refl) h
item_begun l us a (inr (inr (inr (inr (inr (inr (inr (inr (inr (inr h)))))))))) = begun_key word.Initial (rule.◌>>=◌ (key word.Begin) (λ _. some_inits l)) us a (refl, refl) h

-- a test of the next token looks at one token
one_token : (k : Key) (t : TokenKind) (ts : List TokenKind) → is_key k (t ∷ ts) ≡ is_key k (t ∷ [])
unfolding is_key
one_token k (token.Key j) ts = refl
one_token k (token.Word n) ts = refl
one_token k (token.Mark m) ts = refl
one_token k (token.Decimal d) ts = refl
one_token k (token.Sized c) ts = refl

begun_no_key : (k : Key) (us r : List TokenKind) (b : Begun us) → is_key k (b.0 ∷ []) ≡ false → is_key k (us ++ r) ≡ false
begun_no_key k us r b other = ap (λ (x : List TokenKind). is_key k (x ++ r)) b.2 ∙ one_token k b.0 (b.1 ++ r) ∙ other

pub item_no_end : (l : Limits) (us : List TokenKind) (a : List Item) (r : List TokenKind) → (item l).sentence us a → is_key word.Endmodule (us ++ r) ≡ false
item_no_end l us a r h = (let b = item_begun l us a h in begun_no_key word.Endmodule us r b b.3.0)

item_no_else : (l : Limits) (us : List TokenKind) (a : List Item) (r : List TokenKind) → (item l).sentence us a → is_key word.Else (us ++ r) ≡ false
item_no_else l us a r h = (let b = item_begun l us a h in begun_no_key word.Else us r b b.3.1)

pub item_some : (l : Limits) (us : List TokenKind) (a : List Item) → (item l).sentence us a → 0 < length us
item_some l us a h =
    let b = item_begun l us a h in
    let long : length us ≡ suc (length b.1) = ap length b.2 in
    omega (arith, long)

-- no `else` stands behind items
pub items_no_else : (l : Limits) (vs : List TokenKind) (lists : List (List Item)) (r : List TokenKind) → AreMany (item l) vs lists → NextKey word.Endmodule r → is_key word.Else (vs ++ r) ≡ false
unfolding is_key
items_no_else l vs [] r h f = rw (h, f.1) refl
items_no_else l vs (list ∷ lists) r h f = subst (λ (x : List TokenKind). is_key word.Else x ≡ false) (sym (append_assoc h.0 h.1 r) ∙ ap (λ (x : List TokenKind). x ++ r) (sym h.2)) (item_no_else l h.0 list (h.1 ++ r) h.3)

pub item_progress : (l : Limits) → Progresses (turn_until (is_key word.Endmodule) (item_at l))
item_progress l = until_progress (item l) append (item_at l) (is_key word.Endmodule) (item_sound l) (item_some l)
