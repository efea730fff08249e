-- What is written of a target is a target with the same tree.
use Rattle.std.proofs.Common.{◌≡◌, ℕ, zero, suc, ◌^◌, ◌<◌, List, [], ◌∷◌, ◌++◌, refl, sym, ap, subst, ◌∙◌, inl, inr}
use Rattle.std.specs.List.{AllByRecursion}
use Rattle.eq_names.specs.Name.{IsName}
use Rattle.eq_vlex.specs.declared.mark.Mark.TheVariants as mark
use Rattle.eq_vlex.specs.declared.token.TokenKind.{TokenKind}
use Rattle.eq_vlex.specs.declared.token.TokenKind.TheVariants as kind
use Rattle.eq_vparse.specs.declared.tree.Range.{Range}
use Rattle.eq_vparse.specs.declared.tree.Target.{Target}
use Rattle.eq_vparse.specs.declared.tree.Target.TheVariants.{Net, Bit, Part as NetPart}
use Rattle.eq_vparse.specs.declared.tree.Target.TheViews.{Concat}
use Rattle.eq_vparse.specs.Rules.{name}
use Rattle.eq_vparse.specs.Phrases.{index_tokens, range_tokens}
use Rattle.eq_vparse.specs.Targets.{range, index, target_up_to}
use Rattle.eq_vparse.specs.Printing.{braced, target_tokens, targets_tokens}
use Rattle.eq_vparse.proofs.LexedTokens.{AreLexed, lexed_split}
use Rattle.eq_vparse.proofs.Parts.{ArePrintable, printable_append, any_token, any_list, opens, no_question, Part, any_is_primary, atom_is_expr, name_part, bit_part, part_part, brace_part}
use Rattle.eq_vparse.proofs.Printed.{target_net, target_bit, target_part, target_concat}
use Rattle.eq_vparse.proofs.RuleParts.{IsGood, each_of_separated, separated_written, all_of, separated_good}

-- ---- names, bits and ranges

pub name_lexed : (ts : List TokenKind) (n : List ℕ) → AreLexed ts → name.sentence ts n → IsName n
name_lexed ts n l h = (subst AreLexed h l).0

pub index_lexed : (ts : List TokenKind) (d : ℕ) → AreLexed ts → index.sentence ts d → d < 2 ^ 31
index_lexed ts d l h =
    let one = lexed_split ts h.0 h.1 h.3 l in
    let two = lexed_split h.1 h.5.0 h.5.1 h.5.3 one.1 in
    subst (λ (n : ℕ). n < 2 ^ 31) (sym h.5.5.5.1) (subst AreLexed h.5.4 two.0).0

pub record IsRange (r : Range) : Type 0 where
  pub left_small : r.left < 2 ^ 31
  pub right_small : r.right < 2 ^ 31

pub range_lexed : (ts : List TokenKind) (r : Range) → AreLexed ts → range.sentence ts r → IsRange r
range_lexed ts r l h =
    let one = lexed_split ts h.0 h.1 h.3 l in
    let after = h.5 in
    let two = lexed_split h.1 after.0 after.1 after.3 one.1 in
    let colon = after.5 in
    let three = lexed_split after.1 colon.0 colon.1 colon.3 two.1 in
    let right = colon.5 in
    let four = lexed_split colon.1 right.0 right.1 right.3 three.1 in
    subst IsRange (sym right.5.5.1) (record { left_small = (subst AreLexed after.4 two.0).0; right_small = (subst AreLexed right.4 four.0).0 })

pub index_written : (d : ℕ) → index.sentence (index_tokens d) d
index_written d = (
  kind.Mark mark.LeftBracket ∷ [],
  kind.Decimal d ∷ kind.Mark mark.RightBracket ∷ [],
  tt,
  refl,
  refl,
  (kind.Decimal d ∷ [], kind.Mark mark.RightBracket ∷ [], d, refl, refl, (kind.Mark mark.RightBracket ∷ [], [], tt, refl, refl, (refl, refl))),
)

pub range_written : (left right : ℕ) → range.sentence (range_tokens left right) (record { left = left; right = right })
range_written left right = (
  kind.Mark mark.LeftBracket ∷ [],
  kind.Decimal left ∷ kind.Mark mark.Colon ∷ kind.Decimal right ∷ kind.Mark mark.RightBracket ∷ [],
  tt,
  refl,
  refl,
  (
    kind.Decimal left ∷ [],
    kind.Mark mark.Colon ∷ kind.Decimal right ∷ kind.Mark mark.RightBracket ∷ [],
    left,
    refl,
    refl,
    (
      kind.Mark mark.Colon ∷ [],
      kind.Decimal right ∷ kind.Mark mark.RightBracket ∷ [],
      tt,
      refl,
      refl,
      (kind.Decimal right ∷ [], kind.Mark mark.RightBracket ∷ [], right, refl, refl, (kind.Mark mark.RightBracket ∷ [], [], tt, refl, refl, (refl, refl))),
    ),
  ),
)

-- ---- targets

pub record IsTarget (n : ℕ) (t : Target) : Type 0 where
  pub sentence : (target_up_to n).sentence (target_tokens t) t
  pub good : IsGood any_token any_list (target_tokens t)

target_from : (n : ℕ) (t : Target) (ts : List TokenKind) → target_tokens t ≡ ts → (target_up_to n).sentence ts t → ArePrintable ts → Part any_token any_list ts → IsTarget n t
target_from n t ts is sentence printable part =
    let S : List TokenKind → Type 0 = λ us. (target_up_to n).sentence us t in
    record { sentence = subst S (sym is) sentence; good = subst (IsGood any_token any_list) (sym is) (record { printable = printable; part = part }) }

pub net_again : (n : ℕ) (w : List ℕ) → IsName w → IsTarget (suc n) (Net w)
net_again n w h = target_from (suc n) (Net w) (kind.Word w ∷ []) (target_net w) (inl (kind.Word w ∷ [], [], w, refl, refl, (refl, refl))) (h, tt) (name_part w)

bit_again : (n : ℕ) (w : List ℕ) (d : ℕ) → IsName w → d < 2 ^ 31 → IsTarget (suc n) (Bit w d)
bit_again n w d h small =
    target_from (suc n) (Bit w d) (kind.Word w ∷ index_tokens d) (target_bit w d)
    (inr (inl (kind.Word w ∷ [], index_tokens d, w, refl, refl, (index_tokens d, [], d, refl, index_written d, (refl, refl)))))
    (h, (tt, (small, (tt, tt)))) (bit_part w d)

part_again : (n : ℕ) (w : List ℕ) (r : Range) → IsName w → IsRange r → IsTarget (suc n) (NetPart w r.left r.right)
part_again n w r h small =
    target_from (suc n) (NetPart w r.left r.right) (kind.Word w ∷ range_tokens r.left r.right) (target_part w r.left r.right)
    (inr (inr (inl (kind.Word w ∷ [], range_tokens r.left r.right, w, refl, refl, (range_tokens r.left r.right, [], r, refl, range_written r.left r.right, (refl, refl))))))
    (h, (tt, (small.left_small, (tt, (small.right_small, (tt, tt)))))) (part_part w r.left r.right)

concat_again : (n : ℕ) (t : Target) (ts : List Target) → IsTarget n t → AllByRecursion (IsTarget n) ts → IsTarget (suc n) (Concat (t ∷ ts))
concat_again n t ts first rest =
    let inner : List TokenKind = targets_tokens (t ∷ ts) in
    let good : IsGood opens no_question inner = separated_good opens no_question refl (λ us. refl) target_tokens t ts (weak t first) (all_of (IsTarget n) (λ u. IsGood opens no_question (target_tokens u)) weak ts rest) in
    let sentences = all_of (IsTarget n) (λ u. (target_up_to n).sentence (target_tokens u) u) (λ u is. is.sentence) ts rest in
    target_from (suc n) (Concat (t ∷ ts)) (braced inner) (target_concat (t ∷ ts))
    (inr (inr (inr (
      kind.Mark mark.LeftBrace ∷ [],
      inner ++ kind.Mark mark.RightBrace ∷ [],
      tt,
      refl,
      refl,
      (inner, kind.Mark mark.RightBrace ∷ [], t ∷ ts, refl, separated_written (target_up_to n) target_tokens t ts first.sentence sentences, (kind.Mark mark.RightBrace ∷ [], [], tt, refl, refl, (refl, refl))),
    ))))
    (tt, printable_append inner (kind.Mark mark.RightBrace ∷ []) good.printable (tt, tt)) (brace_part inner good.part)
  where
    weak : (u : Target) → IsTarget n u → IsGood opens no_question (target_tokens u)
    weak u is = record { printable = is.good.printable; part = atom_is_expr (target_tokens u) (any_is_primary (target_tokens u) is.good.part) }

pub target_again : (n : ℕ) (ts : List TokenKind) (t : Target) → AreLexed ts → (target_up_to n).sentence ts t → IsTarget n t
target_again zero ts t l h = absurd h
target_again (suc n) ts t l (inl h) =
    let parts = lexed_split ts h.0 h.1 h.3 l in
    subst (IsTarget (suc n)) (sym h.5.1) (net_again n h.2 (name_lexed h.0 h.2 parts.0 h.4))
target_again (suc n) ts t l (inr (inl h)) =
    let parts = lexed_split ts h.0 h.1 h.3 l in
    let after = h.5 in
    let more = lexed_split h.1 after.0 after.1 after.3 parts.1 in
    subst (IsTarget (suc n)) (sym after.5.1) (bit_again n h.2 after.2 (name_lexed h.0 h.2 parts.0 h.4) (index_lexed after.0 after.2 more.0 after.4))
target_again (suc n) ts t l (inr (inr (inl h))) =
    let parts = lexed_split ts h.0 h.1 h.3 l in
    let after = h.5 in
    let more = lexed_split h.1 after.0 after.1 after.3 parts.1 in
    subst (IsTarget (suc n)) (sym after.5.1) (part_again n h.2 after.2 (name_lexed h.0 h.2 parts.0 h.4) (range_lexed after.0 after.2 more.0 after.4))
target_again (suc n) ts t l (inr (inr (inr h))) =
    let parts = lexed_split ts h.0 h.1 h.3 l in
    let after = h.5 in
    let more = lexed_split h.1 after.0 after.1 after.3 parts.1 in
    let all = each_of_separated (target_up_to n) (IsTarget n) (target_again n) after.0 after.2 more.0 after.4 in
    subst (IsTarget (suc n)) (sym (after.5.5.1 ∙ ap Concat all.is)) (concat_again n all.first all.rest all.first_has all.rest_have)
