-- Terminals and connections are read by the grammar.
use Rattle.std.proofs.Common.{◌≡◌, ◌≢◌, ℕ, suc, ◌+◌, ◌<◌, Bool, true, false, cond, List, [], ◌∷◌, ◌++◌, length, drop, Option, Some, None, refl, sym, ap, subst, ◌∙◌, inl, inr, append_assoc, arith}
use Rattle.std.specs.Prelude.{not, ◌||◌}
use Rattle.std.proofs.lemmas.Bool.{cases_Bool}
use Rattle.std.proofs.lemmas.List.{append-nil, length-append}
use Rattle.eq_vlex.specs.declared.mark.Mark.TheVariants.{LeftParen, RightParen, Comma, Dot}
use Rattle.eq_vlex.specs.declared.token.TokenKind.{TokenKind}
use Rattle.eq_vlex.specs.declared.token.TokenKind.TheVariants as token
use Rattle.eq_vparse.specs.declared.tree.Conns.TheVariants.{ByOrder, ByName}
use Rattle.eq_vparse.specs.declared.tree.Expr.{Expr}
use Rattle.eq_vparse.specs.declared.tree.GateKind.{GateKind}
use Rattle.eq_vparse.specs.declared.tree.Item.{Item}
use Rattle.eq_vparse.specs.declared.tree.Item.TheVariants.{Gate, Instance}
use Rattle.eq_vparse.specs.declared.tree.Named.{Named}
use Rattle.eq_vparse.specs.Limits.{Limits}
use Rattle.eq_vparse.specs.Tests.{is_mark, is_word}
use Rattle.eq_vparse.specs.Reading.{Reading, read, next, ◌>>=◌, done, name_at, some_if}
use Rattle.eq_vparse.specs.Looping.{comma_turn, comma_list}
use Rattle.eq_vparse.specs.Rules as rule
use Rattle.eq_vparse.specs.Rules.{Rule, give, maybe, name, mark, separated}
use Rattle.eq_vparse.specs.Statements.{expr_within}
use Rattle.eq_vparse.specs.Grammar.{named, conns, terminals, instance}
use Rattle.eq_vparse.specs.Machine.{expr_at, EndsExpr, ends_expr, begins_expr}
use Rattle.eq_vparse.specs.ConnectionReading.{term_at, terms_at, maybe_name_at, gate_at, ends_connection, maybe_expr_at, ordered_at, named_at, more_named_at, by_order_at, by_name_at, some_conns_at, conns_at, instance_at}
use Rattle.eq_vparse.proofs.Standing.{mark_stands}
use Rattle.eq_vparse.proofs.Looping.{Progresses}
use Rattle.eq_vparse.proofs.Agreement.{SoundBy, Anything, name_sound, mark_sound, Sound, Complete, SoundInto, CompleteInto, put_all, next_read, same_value, same_left, then_sound, done_sound}
use Rattle.eq_vparse.proofs.Lists.{AreSeparated, from_separated, comma_sound, comma_complete, comma_opens, comma_left, comma_progress}
use Rattle.eq_vparse.proofs.Sound.{expr_sound}
use Rattle.eq_vparse.proofs.Again.{expr_complete}
use Rattle.eq_vparse.proofs.Begins.{expr_begins, expr_some}
use Rattle.eq_vparse.proofs.Follows.{Next, EndsEntry, entry_ends_expr, Completes, completes, completed, simply, given, before_mark, a_name, a_mark, within_then, within_give, covers_then, covers_give, into_sound, into_complete}

-- one more behind the others
abbrev pub push : {A : Type 0} → List A → A → List A
push past a = past ++ a ∷ []

-- a reader that puts what it reads behind the others
pub push_sound : {A : Type 0} (g : Rule A) (p : List TokenKind → Reading A) → Sound g p → SoundInto g push (λ past. p >>= λ a. done (past ++ a ∷ []))
push_sound g p sound s ts s' r e =
    let n = next_read (p ts) (λ a. done (s ++ a ∷ [])) s' r e in
    let h = sound ts n.0 n.1 n.2 in
    (h.0, n.0, h.1 ∙ ap (λ (x : List TokenKind). h.0 ++ x) (same_left (s ++ n.0 ∷ []) s' n.1 r n.3), h.2, sym (same_value (s ++ n.0 ∷ []) s' n.1 r n.3))

pub push_complete : {A : Type 0} (g : Rule A) (p : List TokenKind → Reading A) (F : List TokenKind → Type 0) → Complete g p F → CompleteInto g push (λ past. p >>= λ a. done (past ++ a ∷ [])) F
push_complete g p F complete s us a r h fr = rw (complete us a r h fr) refl

pub term_sound : (l : Limits) → SoundInto (expr_within l) push (term_at l)
unfolding term_at
term_sound l = push_sound (expr_within l) (expr_at l.marks) (expr_sound l.marks)

pub term_progress : (l : Limits) → Progresses (comma_turn (term_at l))
term_progress l = comma_progress (expr_within l) push (term_at l) (term_sound l)

-- ---- what may be left out

pub some_if_sound : {A : Type 0} (g : Rule A) (p : List TokenKind → Reading A) → Sound g p → (b : Bool) → Sound (maybe g) (some_if p b)
some_if_sound g p sound true ts a r e =
    let n = next_read (p ts) (λ x. done (Some x)) a r e in
    let h = sound ts n.0 n.1 n.2 in
    let P : Option _ → Type 0 = λ x. (maybe g).sentence h.0 x in
    (h.0, h.1 ∙ ap (λ (x : List TokenKind). h.0 ++ x) (same_left (Some n.0) a n.1 r n.3), subst P (same_value (Some n.0) a n.1 r n.3) h.2)
some_if_sound g p sound false ts a r e =
    let P : Option _ → Type 0 = λ x. (maybe g).sentence [] x in
    ([], same_left None a ts r e, subst P (same_value None a ts r e) refl)

pub maybe_expr_sound : (l : Limits) → Sound (maybe (expr_within l)) (maybe_expr_at l)
unfolding maybe_expr_at
maybe_expr_sound l ts a r e = some_if_sound (expr_within l) (expr_at l.marks) (expr_sound l.marks) (not (ends_connection ts)) ts a r e

pub maybe_name_sound : Sound (maybe name) maybe_name_at
unfolding maybe_name_at
maybe_name_sound ts a r e = some_if_sound name name_at name_sound (is_word ts) ts a r e

pub ordered_sound : (l : Limits) → SoundInto (maybe (expr_within l)) push (ordered_at l)
unfolding ordered_at
ordered_sound l = push_sound (maybe (expr_within l)) (maybe_expr_at l) (maybe_expr_sound l)

pub ordered_progress : (l : Limits) → Progresses (comma_turn (ordered_at l))
ordered_progress l = comma_progress (maybe (expr_within l)) push (ordered_at l) (ordered_sound l)

pub named_sound : (l : Limits) → Sound (named l) (named_at l)
unfolding named_at
named_sound l =
    then_sound _ _ _ _ (mark_sound Dot) (λ _. then_sound _ _ _ _ name_sound (λ p. then_sound _ _ _ _ (mark_sound LeftParen) (λ _. then_sound _ _ _ _ (maybe_expr_sound l) (λ e.
    then_sound _ _ _ _ (mark_sound RightParen) (λ _. done_sound (record { port = p; expr = e }))))))

pub more_named_sound : (l : Limits) → SoundInto (named l) push (more_named_at l)
unfolding more_named_at
more_named_sound l = push_sound (named l) (named_at l) (named_sound l)

pub named_progress : (l : Limits) → Progresses (comma_turn (more_named_at l))
named_progress l = comma_progress (named l) push (more_named_at l) (more_named_sound l)

-- ---- what the grammar says is read

pub put_all_push : {A : Type 0} (past list : List A) → put_all push past list ≡ past ++ list
put_all_push past [] = sym (append-nil past)
put_all_push past (a ∷ list) = put_all_push (push past a) list ∙ append_assoc past (a ∷ []) list

-- a list with commas, from an empty one
pub comma_whole : {A : Type 0} (g : Rule A) (p : List A → List TokenKind → Reading (List A)) (G F : List TokenKind → Type 0) → CompleteInto g push p G → ((ts : List TokenKind) → G (token.Mark Comma ∷ ts)) → ((ts : List TokenKind) → F ts → G ts) → ((ts : List TokenKind) → F ts → is_mark Comma ts ≡ false)
    → Completes (separated g).sentence (comma_list p []) F
comma_whole g p G F complete comma follows ends us list r ts h f is = ap (comma_list p []) is ∙ comma_complete g push p G F complete comma follows ends [] us list r h f ∙ ap (λ x. read x r) (put_all_push [] list)

pub comma_part : {A : Type 0} (g : Rule A) (p : List A → List TokenKind → Reading (List A)) → SoundInto g push p → SoundBy (separated g).sentence (comma_list p [])
comma_part g p sound ts list r e =
    let h = comma_sound g push p sound [] ts list r e in
    let P : List _ → Type 0 = λ x. (separated g).sentence h.0 x in
    (h.0, h.2, subst P (sym (put_all_push [] h.1) ∙ sym h.4) h.3)

-- `)` ends no list with a comma
pub no_comma : (ts : List TokenKind) → Next RightParen ts → is_mark Comma ts ≡ false
unfolding is_mark
no_comma ts f = rw (f.1) refl

pub paren_ends : (ts : List TokenKind) → Next RightParen ts → EndsEntry ts
paren_ends ts f = rw (f.1) refl

pub term_complete : (l : Limits) → CompleteInto (expr_within l) push (term_at l) EndsEntry
unfolding term_at
term_complete l = push_complete (expr_within l) (expr_at l.marks) EndsEntry (λ us e r h f. expr_complete l.marks us e r h (entry_ends_expr r f))

pub terms_complete : (l : Limits) → Completes (separated (expr_within l)).sentence (terms_at l) (Next RightParen)
unfolding terms_at
terms_complete l = comma_whole (expr_within l) (term_at l) EndsEntry (Next RightParen) (term_complete l) (λ ts. refl) paren_ends no_comma

pub terms_sound : (l : Limits) → SoundBy (separated (expr_within l)).sentence (terms_at l)
unfolding terms_at
terms_sound l = comma_part (expr_within l) (term_at l) (term_sound l)

-- ---- the expression of a connection

abbrev pub EndsConnection : List TokenKind → Type 0
EndsConnection ts = ends_connection ts ≡ true

connection_ends_expr : (ts : List TokenKind) → EndsConnection ts → EndsExpr ts
unfolding is_mark ends_expr
connection_ends_expr (token.Mark Comma ∷ ts) e = refl
connection_ends_expr (token.Mark RightParen ∷ ts) e = refl
connection_ends_expr _ e = absurd cc

no_connection : (ts : List TokenKind) → begins_expr ts ≡ true → ends_connection ts ≡ false
unfolding is_mark begins_expr
no_connection (token.Mark Comma ∷ ts) e = absurd cc
no_connection (token.Mark RightParen ∷ ts) e = absurd cc
no_connection _ e = refl

pub maybe_expr_complete : (l : Limits) → Complete (maybe (expr_within l)) (maybe_expr_at l) EndsConnection
unfolding maybe_expr_at
maybe_expr_complete l us None r h f = rw (h, f) refl
maybe_expr_complete l us (Some e) r h f = rw (no_connection (us ++ r) (expr_begins us e r h.0), expr_complete l.marks us e r h (connection_ends_expr r f)) refl

paren_connects : (ts : List TokenKind) → Next RightParen ts → EndsConnection ts
unfolding is_mark
paren_connects ts f = rw (f.1) refl

comma_connects : (ts : List TokenKind) → EndsConnection (token.Mark Comma ∷ ts)
unfolding is_mark
comma_connects ts = refl

a_maybe_expr : (l : Limits) → Completes (maybe (expr_within l)).sentence (maybe_expr_at l) (Next RightParen)
a_maybe_expr l = completes (maybe (expr_within l)).sentence (maybe_expr_at l) (Next RightParen) (λ us a r h f. maybe_expr_complete l us a r h (paren_connects r f))

-- ---- connections by order and by name

ordered_complete : (l : Limits) → CompleteInto (maybe (expr_within l)) push (ordered_at l) EndsConnection
unfolding ordered_at
ordered_complete l = push_complete (maybe (expr_within l)) (maybe_expr_at l) EndsConnection (maybe_expr_complete l)

by_order_complete : (l : Limits) → Completes (separated (maybe (expr_within l))).sentence (by_order_at l) (Next RightParen)
unfolding by_order_at
by_order_complete l = comma_whole (maybe (expr_within l)) (ordered_at l) EndsConnection (Next RightParen) (ordered_complete l) comma_connects paren_connects no_comma

by_order_sound : (l : Limits) → SoundBy (separated (maybe (expr_within l))).sentence (by_order_at l)
unfolding by_order_at
by_order_sound l = comma_part (maybe (expr_within l)) (ordered_at l) (ordered_sound l)

named_complete : (l : Limits) → Completes (named l).sentence (named_at l) Anything
unfolding named_at
named_complete l =
    simply _ _ _ _ _ (a_mark Dot) (λ _. simply _ _ _ _ _ a_name (λ p. simply _ _ _ _ _ (a_mark LeftParen) (λ _. before_mark RightParen _ _ _ _ _ (a_maybe_expr l) (λ e.
    simply _ _ _ _ _ (a_mark RightParen) (λ _. given (record { port = p; expr = e }) Anything)))))

more_named_complete : (l : Limits) → CompleteInto (named l) push (more_named_at l) Anything
unfolding more_named_at
more_named_complete l = push_complete (named l) (named_at l) Anything (completed (named l).sentence (named_at l) Anything (named_complete l))

by_name_complete : (l : Limits) → Completes (separated (named l)).sentence (by_name_at l) (Next RightParen)
unfolding by_name_at
by_name_complete l = comma_whole (named l) (more_named_at l) Anything (Next RightParen) (more_named_complete l) (λ ts. tt) (λ ts f. tt) no_comma

by_name_sound : (l : Limits) → SoundBy (separated (named l)).sentence (by_name_at l)
unfolding by_name_at
by_name_sound l = comma_part (named l) (more_named_at l) (more_named_sound l)

-- ---- all connections

-- tokens that a list by order begins with
opens_order : List TokenKind → Bool
opens_order (token.Mark Comma ∷ ts) = true
opens_order ts = begins_expr ts

order_no_paren : (ts : List TokenKind) → opens_order ts ≡ true → (is_mark RightParen ts ≡ false) × (is_mark Dot ts ≡ false)
unfolding opens_order is_mark begins_expr
order_no_paren (token.Mark RightParen ∷ ts) e = absurd cc
order_no_paren (token.Mark Dot ∷ ts) e = absurd cc
order_no_paren _ e = (refl, refl)

order_by_expr : (ts : List TokenKind) → begins_expr ts ≡ true → opens_order ts ≡ true
unfolding opens_order
order_by_expr (token.Mark Comma ∷ ts) e = refl
order_by_expr _ e = e

order_opens : (l : Limits) (us : List TokenKind) (a : Option Expr) (rest : List (Option Expr)) (r : List TokenKind) → AreSeparated (maybe (expr_within l)) us a rest → us ≢ [] → opens_order (us ++ r) ≡ true
unfolding opens_order
order_opens l us None [] r h some = absurd (some h)
order_opens l us (Some e) [] r h some = order_by_expr (us ++ r) (expr_begins us e r h.0)
order_opens l us None (b ∷ rest) r h some = rw (h.2, h.3) refl
order_opens l us (Some e) (b ∷ rest) r h some =
    let whole : us ++ r ≡ h.0 ++ (token.Mark Comma ∷ h.1) ++ r = ap (λ (x : List TokenKind). x ++ r) h.2 in
    subst (λ (x : List TokenKind). opens_order x ≡ true) (sym (append_assoc h.0 (token.Mark Comma ∷ h.1) r) ∙ sym (ap (λ (x : List TokenKind). x ++ r) h.2)) (order_by_expr (h.0 ++ (token.Mark Comma ∷ h.1 ++ r)) (expr_begins h.0 e (token.Mark Comma ∷ h.1 ++ r) h.3.0))

named_begins : (l : Limits) (us : List TokenKind) (a : Named) (r : List TokenKind) → (named l).sentence us a → Next Dot (us ++ r)
named_begins l us a r h = (h.1 ++ r, ap (λ (x : List TokenKind). x ++ r) h.3 ∙ ap (λ (x : List TokenKind). (x ++ h.1) ++ r) h.4)

name_opens : (l : Limits) (us : List TokenKind) (a : Named) (rest : List Named) (r : List TokenKind) → AreSeparated (named l) us a rest → Next Dot (us ++ r)
name_opens l us a [] r h = named_begins l us a r h
name_opens l us a (b ∷ rest) r h =
    let n = named_begins l h.0 a (token.Mark Comma ∷ h.1 ++ r) h.3 in
    let whole : us ++ r ≡ h.0 ++ (token.Mark Comma ∷ h.1 ++ r) = ap (λ (x : List TokenKind). x ++ r) h.2 ∙ append_assoc h.0 (token.Mark Comma ∷ h.1) r in
    (n.0, whole ∙ n.1)

dot_no_paren : (ts : List TokenKind) → Next Dot ts → (is_mark RightParen ts ≡ false) × (is_mark Dot ts ≡ true)
unfolding is_mark
dot_no_paren ts f = (rw (f.1) refl, rw (f.1) refl)

paren_stands : (ts : List TokenKind) → Next RightParen ts → is_mark RightParen ts ≡ true
unfolding is_mark
paren_stands ts f = rw (f.1) refl

pub conns_complete : (l : Limits) → Completes (conns l).sentence (conns_at l) (Next RightParen)
unfolding conns_at some_conns_at
conns_complete l us a r ts (inl h) f is =
    let end : ts ≡ r = is ∙ ap (λ (x : List TokenKind). x ++ r) h.0 in
    rw (end, paren_stands r f) (ap (λ x. read x r) (sym h.1))
conns_complete l us a r ts (inr (inl h)) f is =
    let k = from_separated (maybe (expr_within l)) h.0 h.2 h.4.0 in
    let end : us ≡ h.0 = h.3 ∙ ap (λ (x : List TokenKind). h.0 ++ x) h.5.0 ∙ append-nil h.0 in
    let opens = order_no_paren (h.0 ++ r) (order_opens l h.0 k.0 k.1 r k.3 h.4.1) in
    rw (is, end, opens.0, opens.1, by_order_complete l h.0 h.2 r (h.0 ++ r) h.4.0 f refl) (ap (λ x. read x r) (sym h.5.1))
conns_complete l us a r ts (inr (inr h)) f is =
    let k = from_separated (named l) h.0 h.2 h.4 in
    let end : us ≡ h.0 = h.3 ∙ ap (λ (x : List TokenKind). h.0 ++ x) h.5.0 ∙ append-nil h.0 in
    let opens = dot_no_paren (h.0 ++ r) (name_opens l h.0 k.0 k.1 r k.3) in
    rw (is, end, opens.0, opens.1, by_name_complete l h.0 h.2 r (h.0 ++ r) h.4 f refl) (ap (λ x. read x r) (sym h.5.1))

-- ---- what is read as connections is some

none_true : true ≡ false → ⊥
none_true e = absurd cc

or_left : (a b : Bool) → (a || b) ≡ true → b ≡ false → a ≡ true
or_left true b e n = refl
or_left false b e n = absurd (none_true (sym e ∙ n))

some_length : (us : List TokenKind) → us ≢ [] → 0 < length us
some_length [] some = absurd (some refl)
some_length (u ∷ us) some = omega arith

some_order : (l : Limits) (ts : List TokenKind) (list : List (Option Expr)) (r : List TokenKind) → is_mark RightParen ts ≡ false → by_order_at l ts ≡ read list r → length r < length ts
unfolding by_order_at ordered_at maybe_expr_at
some_order l ts list r paren e =
    let o = comma_opens (maybe (expr_within l)) push (ordered_at l) [] ts list r e in
    let h = ordered_sound l [] ts o.0 o.1 o.2 in
    let long : length ts ≡ length h.0 + length o.1 = ap length h.2 ∙ length-append h.0 o.1 in
    elim (o.3) [
      | inl more ↦
          let left = comma_left (maybe (expr_within l)) push (ordered_at l) (ordered_sound l) (length ts) o.0 (drop 1 o.1) list r more.1 in
          let one : length o.1 ≡ suc (length (drop 1 o.1)) = ap length (mark_stands Comma o.1 more.0) in
          omega arith
      | inr last ↦
          let end : o.1 ≡ r = same_left o.0 list o.1 r last.1 in
          elim (cases_Bool (ends_connection ts)) [
            | inl y ↦
                let k = next_read (maybe_expr_at l ts) (λ a. done ([] ++ a ∷ [])) o.0 o.1 o.2 in
                let none : read None ts ≡ read k.0 k.1 = subst (λ b. some_if (expr_at l.marks) (not b) ts ≡ read k.0 k.1) y k.2 in
                let same : ts ≡ o.1 = same_left None k.0 ts k.1 none ∙ same_left ([] ++ k.0 ∷ []) o.0 k.1 o.1 k.3 in
                absurd (none_true (sym (or_left _ _ y paren) ∙ ap (is_mark Comma) same ∙ last.0))
            | inr n ↦
                let k = next_read (maybe_expr_at l ts) (λ a. done ([] ++ a ∷ [])) o.0 o.1 o.2 in
                let x = next_read (expr_at l.marks ts) (λ a. done (Some a)) k.0 k.1 (subst (λ b. some_if (expr_at l.marks) (not b) ts ≡ read k.0 k.1) n k.2) in
                let w = expr_sound l.marks ts x.0 x.1 x.2 in
                let more = some_length w.0 (expr_some w.0 x.0 w.2.0) in
                let size : length ts ≡ length w.0 + length x.1 = ap length w.1 ∙ length-append w.0 x.1 in
                let s1 : length x.1 ≡ length k.1 = ap length (same_left (Some x.0) k.0 x.1 k.1 x.3) in
                let s2 : length k.1 ≡ length o.1 = ap length (same_left ([] ++ k.0 ∷ []) o.0 k.1 o.1 k.3) in
                let s3 : length o.1 ≡ length r = ap length end in
                omega arith
          ]
    ]

pub conns_sound : (l : Limits) → SoundBy (conns l).sentence (conns_at l)
unfolding conns_at some_conns_at
conns_sound l ts cs r e =
    elim (cases_Bool (is_mark RightParen ts)) [
      | inl y ↦
          let e' : read (ByName []) ts ≡ read cs r = subst (λ b. cond b (read (ByName []) ts) (some_conns_at l (is_mark Dot ts) ts) ≡ read cs r) y e in
          ([], same_left (ByName []) cs ts r e', inl (refl, sym (same_value (ByName []) cs ts r e')))
      | inr n ↦
          let e' : some_conns_at l (is_mark Dot ts) ts ≡ read cs r = subst (λ b. cond b (read (ByName []) ts) (some_conns_at l (is_mark Dot ts) ts) ≡ read cs r) n e in
          elim (cases_Bool (is_mark Dot ts)) [
            | inl y ↦
                let e'' : next (by_name_at l ts) (λ ns. done (ByName ns)) ≡ read cs r = subst (λ b. some_conns_at l b ts ≡ read cs r) y e' in
                let h = then_sound (separated (named l)).sentence (λ ns. (give (ByName ns)).sentence) (by_name_at l) (λ ns. done (ByName ns)) (by_name_sound l) (λ ns. done_sound (ByName ns)) ts cs r e'' in
                (h.0, h.1, inr (inr h.2))
            | inr d ↦
                let e'' : next (by_order_at l ts) (λ es. done (ByOrder es)) ≡ read cs r = subst (λ b. some_conns_at l b ts ≡ read cs r) d e' in
                let k = next_read (by_order_at l ts) (λ es. done (ByOrder es)) cs r e'' in
                let h = by_order_sound l ts k.0 k.1 k.2 in
                let end : k.1 ≡ r = same_left (ByOrder k.0) cs k.1 r k.3 in
                let less = some_order l ts k.0 k.1 n k.2 in
                let some : h.0 ≢ [] = λ none. shorter less (ap length (h.1 ∙ ap (λ (x : List TokenKind). x ++ k.1) none)) in
                (h.0, h.1 ∙ ap (λ (x : List TokenKind). h.0 ++ x) end, inr (inl (h.0, [], k.0, sym (append-nil h.0), (h.2, some), (refl, sym (same_value (ByOrder k.0) cs k.1 r k.3)))))
          ]
    ]
  where
    shorter : {n m : ℕ} → n < m → m ≡ n → ⊥
    shorter less e = omega (arith, less, e)

-- ---- gates and instances

abbrev pub append : List Item → List Item → List Item
append items more = items ++ more

maybe_name_complete : Complete (maybe name) maybe_name_at (Next LeftParen)
unfolding maybe_name_at is_word name_at
maybe_name_complete us None r h f = rw (h, f.1) refl
maybe_name_complete us (Some n) r h f = rw h refl

a_maybe_name : Completes (maybe name).sentence maybe_name_at (Next LeftParen)
a_maybe_name = completes (maybe name).sentence maybe_name_at (Next LeftParen) maybe_name_complete

gate_into : Limits → GateKind → List Item → Rule (List Item)
gate_into l g items = rule.◌>>=◌ (maybe name) (λ n. rule.◌>>=◌ (mark LeftParen) (λ _. rule.◌>>=◌ (separated (expr_within l)) (λ es. rule.◌>>=◌ (mark RightParen) (λ _. give (items ++ Gate g n es ∷ [])))))

pub gate_sound : (l : Limits) (g : GateKind) → SoundInto (terminals l g) append (gate_at l g)
unfolding gate_at gate_into
gate_sound l g = into_sound (terminals l g) append (λ items. (gate_into l g items).sentence) (gate_at l g)
    (λ items. within_then (append items) _ _ _ (λ n. within_then (append items) _ _ _ (λ _. within_then (append items) _ _ _ (λ es. within_then (append items) _ _ _ (λ _. within_give (append items) _ _ refl)))))
    (λ items. then_sound _ _ _ _ maybe_name_sound (λ n. then_sound _ _ _ _ (mark_sound LeftParen) (λ _. then_sound _ _ _ _ (terms_sound l) (λ es. then_sound _ _ _ _ (mark_sound RightParen) (λ _. done_sound _)))))

pub gate_complete : (l : Limits) (g : GateKind) → CompleteInto (terminals l g) append (gate_at l g) EndsEntry
unfolding gate_at gate_into
gate_complete l g = into_complete (terminals l g) append (λ items. (gate_into l g items).sentence) (gate_at l g) EndsEntry
    (λ items. covers_then (append items) _ _ _ (λ n. covers_then (append items) _ _ _ (λ _. covers_then (append items) _ _ _ (λ es. covers_then (append items) _ _ _ (λ _. covers_give (append items) _ _ refl)))))
    (λ items. before_mark LeftParen _ _ _ _ EndsEntry a_maybe_name (λ n. simply _ _ _ _ _ (a_mark LeftParen) (λ _. before_mark RightParen _ _ _ _ EndsEntry (terms_complete l) (λ es. simply _ _ _ _ _ (a_mark RightParen) (λ _. given _ EndsEntry)))))

instance_into : Limits → List ℕ → List Item → Rule (List Item)
instance_into l m items = rule.◌>>=◌ name (λ n. rule.◌>>=◌ (mark LeftParen) (λ _. rule.◌>>=◌ (conns l) (λ cs. rule.◌>>=◌ (mark RightParen) (λ _. give (items ++ Instance m n cs ∷ [])))))

pub instance_sound : (l : Limits) (m : List ℕ) → SoundInto (instance l m) append (instance_at l m)
unfolding instance_at instance_into
instance_sound l m = into_sound (instance l m) append (λ items. (instance_into l m items).sentence) (instance_at l m)
    (λ items. within_then (append items) _ _ _ (λ n. within_then (append items) _ _ _ (λ _. within_then (append items) _ _ _ (λ cs. within_then (append items) _ _ _ (λ _. within_give (append items) _ _ refl)))))
    (λ items. then_sound _ _ _ _ name_sound (λ n. then_sound _ _ _ _ (mark_sound LeftParen) (λ _. then_sound _ _ _ _ (conns_sound l) (λ cs. then_sound _ _ _ _ (mark_sound RightParen) (λ _. done_sound _)))))

pub instance_complete : (l : Limits) (m : List ℕ) → CompleteInto (instance l m) append (instance_at l m) EndsEntry
unfolding instance_at instance_into
instance_complete l m = into_complete (instance l m) append (λ items. (instance_into l m items).sentence) (instance_at l m) EndsEntry
    (λ items. covers_then (append items) _ _ _ (λ n. covers_then (append items) _ _ _ (λ _. covers_then (append items) _ _ _ (λ cs. covers_then (append items) _ _ _ (λ _. covers_give (append items) _ _ refl)))))
    (λ items. simply _ _ _ _ _ a_name (λ n. simply _ _ _ _ _ (a_mark LeftParen) (λ _. before_mark RightParen _ _ _ _ EndsEntry (conns_complete l) (λ cs. simply _ _ _ _ _ (a_mark RightParen) (λ _. given _ EndsEntry)))))
