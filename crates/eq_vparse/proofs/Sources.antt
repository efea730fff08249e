-- Modules and whole sources are read by the grammar.
use Rattle.std.proofs.Common.{◌≡◌, ℕ, suc, ◌<◌, true, false, List, [], ◌∷◌, ◌++◌, length, refl, sym, ap, ◌∙◌, arith}
use Rattle.std.proofs.lemmas.List.{append-nil}
use Rattle.eq_vlex.specs.declared.key.Key.TheVariants as word
use Rattle.eq_vlex.specs.declared.mark.Mark.TheVariants.{Semicolon}
use Rattle.eq_vlex.specs.declared.token.TokenKind.{TokenKind}
use Rattle.eq_vlex.specs.declared.token.TokenKind.TheVariants as token
use Rattle.eq_vparse.specs.declared.header.Header.{Header}
use Rattle.eq_vparse.specs.declared.tree.Item.{Item}
use Rattle.eq_vparse.specs.declared.tree.Module.{Module}
use Rattle.eq_vparse.specs.declared.tree.Source.{Source}
use Rattle.eq_vparse.specs.Limits.{Limits}
use Rattle.eq_vparse.specs.Tests.{is_key, is_end}
use Rattle.eq_vparse.specs.Reading.{Reading, read, next, done}
use Rattle.eq_vparse.specs.Looping.{turn_until, repeat_until}
use Rattle.eq_vparse.specs.Rules as rule
use Rattle.eq_vparse.specs.Rules.{Rule, name, mark, key, many, give, AreMany}
use Rattle.eq_vparse.specs.Grammar.{joined, item, header, module_of, design, source}
use Rattle.eq_vparse.specs.ItemReading.{item_at}
use Rattle.eq_vparse.specs.SourceReading.{items_at, design_at, more_designs_at, designs_at, source_at}
use Rattle.eq_vparse.proofs.Looping.{Progresses}
use Rattle.eq_vparse.proofs.Agreement.{Sound, Complete, SoundBy, Chain, SoundInto, CompleteInto, Anything, put_all, next_read, same_value, name_sound, mark_sound, key_sound, done_sound, then_sound}
use Rattle.eq_vparse.proofs.Lists.{until_sound, until_complete, until_progress}
use Rattle.eq_vparse.proofs.Follows.{NextKey, Completes, simply, given, before_mark, before_key, a_name, a_mark, a_key}
use Rattle.eq_vparse.proofs.Connections.{push, push_sound, push_complete, put_all_push, append}
use Rattle.eq_vparse.proofs.Listed.{put_all_append}
use Rattle.eq_vparse.proofs.Items.{item_sound, item_complete, item_no_end, item_some, items_no_else}
use Rattle.eq_vparse.proofs.Headers.{header_sound, header_complete}

-- ---- items up to `endmodule`

ItemsRead : Limits → List Item → List TokenKind → List Item → Type 0
ItemsRead l items us all = (lists : List (List Item)) × AreMany (item l) us lists × (all ≡ items ++ joined lists)

items_sound : (l : Limits) (items : List Item) → SoundBy (ItemsRead l items) (items_at l items)
unfolding items_at ItemsRead
items_sound l items ts all r e =
    let h = until_sound (item l) append (item_at l) (is_key word.Endmodule) (item_sound l) items ts all r e in
    (h.0, h.2, (h.1, h.3, h.4 ∙ put_all_append items h.1))

endmodule_stops : (r : List TokenKind) → NextKey word.Endmodule r → is_key word.Endmodule r ≡ true
unfolding is_key
endmodule_stops r f = rw (f.1) refl

items_complete : (l : Limits) (items : List Item) → Completes (ItemsRead l items) (items_at l items) (NextKey word.Endmodule)
unfolding items_at ItemsRead
items_complete l items us all r ts h f is =
    ap (repeat_until (is_key word.Endmodule) (item_at l) items) is
    ∙ until_complete (item l) append (item_at l) (is_key word.Endmodule) (λ x. is_key word.Else x ≡ false) (NextKey word.Endmodule) (item_complete l) (item_no_end l) (item_some l) (items_no_else l) endmodule_stops items us h.0 r h.1 f
    ∙ ap (λ x. read x r) (put_all_append items h.0 ∙ sym h.2)

-- ---- a module

-- what is read behind the `;` of the header
abbrev made : List ℕ → Header → List Item → Module
made n h all = record { name = n; ports = h.ports; items = all }

abbrev BodyRead : Limits → List ℕ → Header → List TokenKind → Module → Type 0
BodyRead l n h = Chain (ItemsRead l h.items) (λ all. Chain (key word.Endmodule).sentence (λ _. (give (made n h all)).sentence))

abbrev DesignRead : Limits → List TokenKind → Module → Type 0
DesignRead l =
    Chain (key word.Module).sentence (λ _. Chain name.sentence (λ n. Chain header.sentence (λ h. Chain (mark Semicolon).sentence (λ _. BodyRead l n h))))

design_read_sound : (l : Limits) → SoundBy (DesignRead l) (design_at l)
unfolding design_at
design_read_sound l =
    then_sound _ _ _ _ (key_sound word.Module) (λ _. then_sound _ _ _ _ name_sound (λ n. then_sound _ _ _ _ header_sound (λ h. then_sound _ _ _ _ (mark_sound Semicolon) (λ _.
    then_sound (ItemsRead l h.items) _ _ _ (items_sound l h.items) (λ all. then_sound _ _ _ _ (key_sound word.Endmodule) (λ _. done_sound (made n h all)))))))

design_read_complete : (l : Limits) → Completes (DesignRead l) (design_at l) Anything
unfolding design_at
design_read_complete l =
    simply _ _ _ _ Anything (a_key word.Module) (λ _. simply _ _ _ _ Anything a_name (λ n. before_mark Semicolon _ _ _ _ Anything header_complete (λ h. simply _ _ _ _ Anything (a_mark Semicolon) (λ _.
    before_key word.Endmodule (ItemsRead l h.items) _ _ _ Anything (items_complete l h.items) (λ all. simply _ _ _ _ Anything (a_key word.Endmodule) (λ _. given (made n h all) Anything))))))

body_in : (l : Limits) (n : List ℕ) (h : Header) (us : List TokenKind) (m : Module) → BodyRead l n h us m
    → (rule.◌>>=◌ (many (item l)) (λ lists. rule.◌>>=◌ (key word.Endmodule) (λ _. give (module_of n h (joined lists))))).sentence us m
unfolding ItemsRead
body_in l n h us m s =
    let k = s.5 in
    (s.0, s.1, s.4.0, s.3, s.4.1, (k.0, k.1, k.2, k.3, k.4, (k.5.0, k.5.1 ∙ ap (made n h) s.4.2)))

body_out : (l : Limits) (n : List ℕ) (h : Header) (us : List TokenKind) (m : Module)
    → (rule.◌>>=◌ (many (item l)) (λ lists. rule.◌>>=◌ (key word.Endmodule) (λ _. give (module_of n h (joined lists))))).sentence us m → BodyRead l n h us m
unfolding ItemsRead
body_out l n h us m s =
    let k = s.5 in
    (s.0, s.1, h.items ++ joined s.2, s.3, (s.2, s.4, refl), (k.0, k.1, k.2, k.3, k.4, k.5))

design_in : (l : Limits) (us : List TokenKind) (m : Module) → DesignRead l us m → (design l).sentence us m
design_in l us m s =
    let a = s.5 in
    let b = a.5 in
    let c = b.5 in
    (s.0, s.1, s.2, s.3, s.4, (a.0, a.1, a.2, a.3, a.4, (b.0, b.1, b.2, b.3, b.4, (c.0, c.1, c.2, c.3, c.4, body_in l a.2 b.2 c.1 m c.5))))

design_out : (l : Limits) (us : List TokenKind) (m : Module) → (design l).sentence us m → DesignRead l us m
design_out l us m s =
    let a = s.5 in
    let b = a.5 in
    let c = b.5 in
    (s.0, s.1, s.2, s.3, s.4, (a.0, a.1, a.2, a.3, a.4, (b.0, b.1, b.2, b.3, b.4, (c.0, c.1, c.2, c.3, c.4, body_out l a.2 b.2 c.1 m c.5))))

pub design_sound : (l : Limits) → Sound (design l) (design_at l)
design_sound l ts m r e = (let h = design_read_sound l ts m r e in (h.0, h.1, design_in l h.0 m h.2))

pub design_complete : (l : Limits) → Complete (design l) (design_at l) Anything
design_complete l us m r h f = design_read_complete l us m r (us ++ r) (design_out l us m h) f refl

design_first : (l : Limits) (us : List TokenKind) (m : Module) → (design l).sentence us m → (vs : List TokenKind) × (us ≡ token.Key word.Module ∷ vs)
design_first l us m s = (s.1, s.3 ∙ ap (λ (x : List TokenKind). x ++ s.1) s.4)

-- ---- a source

more_designs_sound : (l : Limits) → SoundInto (design l) push (more_designs_at l)
unfolding more_designs_at
more_designs_sound l = push_sound (design l) (design_at l) (design_sound l)

more_designs_complete : (l : Limits) → CompleteInto (design l) push (more_designs_at l) Anything
unfolding more_designs_at
more_designs_complete l = push_complete (design l) (design_at l) Anything (design_complete l)

design_some : (l : Limits) (us : List TokenKind) (m : Module) → (design l).sentence us m → 0 < length us
design_some l us m s =
    let f = design_first l us m s in
    let long : length us ≡ suc (length f.0) = ap length f.1 in
    omega (arith, long)

pub design_progress : (l : Limits) → Progresses (turn_until is_end (more_designs_at l))
design_progress l = until_progress (design l) push (more_designs_at l) is_end (more_designs_sound l) (design_some l)

design_no_end : (l : Limits) (us : List TokenKind) (m : Module) (r : List TokenKind) → (design l).sentence us m → is_end (us ++ r) ≡ false
design_no_end l us m r s = (let f = design_first l us m s in ap (λ (x : List TokenKind). is_end (x ++ r)) f.1)

-- the end of the tokens
abbrev Ends : List TokenKind → Type 0
Ends r = r ≡ []

ends_here : (r : List TokenKind) → Ends r → is_end r ≡ true
ends_here r f = rw f refl

ended_here : (r : List TokenKind) → is_end r ≡ true → r ≡ []
ended_here [] e = refl
ended_here (t ∷ r) e = absurd cc

part : (o : Reading (List Module)) (s : Source) (r : List TokenKind) → next o (λ ms. done (record { modules = ms })) ≡ read s r → (ms : List Module) × (m : List TokenKind) × (o ≡ read ms m) × (record { modules = ms } ≡ s)
part o s r e =
    let n = next_read o (λ ms. done (record { modules = ms })) s r e in
    (n.0, n.1, n.2, same_value (record { modules = n.0 }) s n.1 r n.3)

-- what is read to the end is a source,
pub source_sound : (l : Limits) (ts : List TokenKind) (s : Source) (r : List TokenKind) → source_at l ts ≡ read s r → (source l).sentence ts s
unfolding source_at designs_at
source_sound l ts s r e =
    let n = part (designs_at l [] ts) s r e in
    let h = until_sound (design l) push (more_designs_at l) is_end (more_designs_sound l) [] ts n.0 n.1 n.2 in
    let whole : ts ≡ h.0 = h.2 ∙ ap (λ (x : List TokenKind). h.0 ++ x) (ended_here n.1 h.5) ∙ append-nil h.0 in
    let value : s ≡ record { modules = h.1 } = sym n.3 ∙ ap (λ x. record { modules = x }) (h.4 ∙ put_all_push [] h.1) in
    (h.0, [], h.1, whole ∙ sym (append-nil h.0), h.3, (refl, value))

-- and a source is read to the end
pub source_complete : (l : Limits) (ts : List TokenKind) (s : Source) → (source l).sentence ts s → source_at l ts ≡ read s []
unfolding source_at designs_at
source_complete l ts s h =
    let end : ts ≡ h.0 ++ [] = h.3 ∙ ap (λ (x : List TokenKind). h.0 ++ x) h.5.0 in
    let all : repeat_until is_end (more_designs_at l) [] (h.0 ++ []) ≡ read (put_all push [] h.2) [] =
    until_complete (design l) push (more_designs_at l) is_end Anything Ends (more_designs_complete l) (design_no_end l) (design_some l) (λ vs list r m f. tt) ends_here [] h.0 h.2 [] h.4 refl in
    rw (end, all) (ap (λ x. read x []) (ap (λ x. record { modules = x }) (put_all_push [] h.2) ∙ sym h.5.1))
