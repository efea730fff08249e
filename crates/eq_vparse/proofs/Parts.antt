-- Lists of tokens that may stand behind one another.
use Rattle.std.proofs.Common.{◌≡◌, ℕ, Bool, true, false, not, eqb, ◌&&◌, List, [], ◌∷◌, ◌++◌, get_or, refl, sym, ap, subst, append_assoc}
use Rattle.std.specs.List.{list_any, AllByRecursion}
use Rattle.eq_vlex.specs.declared.mark.Mark.{Mark}
use Rattle.eq_vlex.specs.declared.mark.Mark.TheVariants as mark
use Rattle.eq_vlex.specs.declared.token.TokenKind.{TokenKind}
use Rattle.eq_vlex.specs.declared.token.TokenKind.TheVariants as kind
use Rattle.eq_vparse.specs.declared.shape.Form.{Form}
use Rattle.eq_vparse.specs.declared.shape.Form.TheVariants as form
use Rattle.eq_vparse.specs.declared.tree.UnOp.{UnOp}
use Rattle.eq_vparse.specs.declared.tree.UnOp.TheVariants as un
use Rattle.eq_vparse.specs.declared.tree.BinOp.{BinOp}
use Rattle.eq_vparse.specs.declared.tree.BinOp.TheVariants as bin
use Rattle.eq_vparse.specs.Layout.{mark_bytes, lengthening, IsPrintable, may_follow, follows, all_follow}
use Rattle.eq_vparse.specs.Phrases.{index_tokens, range_tokens}
use Rattle.eq_vparse.specs.Printing.{parenthesized, braced, more, separated, unary_mark, binary_mark, as_operand, as_condition}

-- ---- printable lists

abbrev pub ArePrintable : List TokenKind → Type 0
ArePrintable ts = AllByRecursion IsPrintable ts

pub printable_append : (us vs : List TokenKind) → ArePrintable us → ArePrintable vs → ArePrintable (us ++ vs)
printable_append [] vs p q = q
printable_append (u ∷ us) vs p q = (p.0, printable_append us vs p.1 q)

-- ---- what may stand before a part and behind it

-- any token, or any list
abbrev pub any_token : TokenKind → Bool
any_token t = true

abbrev pub any_list : List TokenKind → Bool
any_list ts = true

-- a token before an expression
abbrev pub opens : TokenKind → Bool
opens (kind.Mark mark.LeftParen) = true
opens (kind.Mark mark.LeftBrace) = true
opens (kind.Mark mark.Comma) = true
opens (kind.Mark mark.Assign) = true
opens (kind.Mark mark.LessEqual) = true
opens _ = false

-- a token before a statement or an item
abbrev pub loose : TokenKind → Bool
loose (kind.Key k) = true
loose (kind.Mark mark.RightParen) = true
loose (kind.Mark mark.Semicolon) = true
loose _ = false

-- no `?` stands first
abbrev pub no_question : List TokenKind → Bool
no_question (kind.Mark mark.Question ∷ ts) = false
no_question _ = true

pub record Part (before : TokenKind → Bool) (behind : List TokenKind → Bool) (us : List TokenKind) : Type 0 where
  pub starts : (t : TokenKind) (vs : List TokenKind) → before t ≡ true → follows t (us ++ vs) ≡ true
  pub flows : (vs : List TokenKind) → behind vs ≡ true → all_follow vs ≡ true → all_follow (us ++ vs) ≡ true

-- ---- single tokens

both : (x y : Bool) → x ≡ true → y ≡ true → (x && y) ≡ true
both x y p q = rw (p, q) refl

mark_before_paren : (m : Mark) → may_follow (kind.Mark m) (kind.Mark mark.LeftParen) ≡ true
mark_before_paren mark.Assign = refl
mark_before_paren _ = refl

pub paren_follows : (t : TokenKind) → may_follow t (kind.Mark mark.LeftParen) ≡ true
paren_follows (kind.Mark m) = mark_before_paren m
paren_follows (kind.Word n) = refl
paren_follows (kind.Key k) = refl
paren_follows (kind.Decimal d) = refl
paren_follows (kind.Sized c) = refl

mark_before_brace : (m : Mark) → may_follow (kind.Mark m) (kind.Mark mark.LeftBrace) ≡ true
mark_before_brace mark.Assign = refl
mark_before_brace _ = refl

pub brace_follows : (t : TokenKind) → may_follow t (kind.Mark mark.LeftBrace) ≡ true
brace_follows (kind.Mark m) = mark_before_brace m
brace_follows (kind.Word n) = refl
brace_follows (kind.Key k) = refl
brace_follows (kind.Decimal d) = refl
brace_follows (kind.Sized c) = refl

pub word_follows : (t : TokenKind) (n : List ℕ) → may_follow t (kind.Word n) ≡ true
word_follows (kind.Mark m) n = refl
word_follows (kind.Word w) n = refl
word_follows (kind.Key k) n = refl
word_follows (kind.Decimal d) n = refl
word_follows (kind.Sized c) n = refl

-- a mark that no byte makes longer stands before anything
pub plain_follows : (m : Mark) (vs : List TokenKind) → lengthening m ≡ [] → follows (kind.Mark m) vs ≡ true
plain_follows m [] e = refl
plain_follows m (kind.Mark n ∷ vs) e = ap (λ (bytes : List ℕ). not (list_any (λ x. eqb (get_or (mark_bytes n) 0 0) x) bytes)) e
plain_follows m (kind.Word n ∷ vs) e = refl
plain_follows m (kind.Key k ∷ vs) e = refl
plain_follows m (kind.Decimal d ∷ vs) e = refl
plain_follows m (kind.Sized c ∷ vs) e = refl

word_before : (n : List ℕ) (vs : List TokenKind) → follows (kind.Word n) vs ≡ true
word_before n [] = refl
word_before n (u ∷ vs) = refl

pub key_before : (k : _) (vs : List TokenKind) → follows (kind.Key k) vs ≡ true
key_before k [] = refl
key_before k (u ∷ vs) = refl

pub decimal_before : (d : ℕ) (vs : List TokenKind) → follows (kind.Decimal d) vs ≡ true
decimal_before d [] = refl
decimal_before d (u ∷ vs) = refl

sized_before_mark : (c : _) (m : Mark) (vs : List TokenKind) → no_question (kind.Mark m ∷ vs) ≡ true → may_follow (kind.Sized c) (kind.Mark m) ≡ true
sized_before_mark c mark.Question vs e = absurd cc
sized_before_mark c _ vs e = refl

sized_before : (c : _) (vs : List TokenKind) → no_question vs ≡ true → follows (kind.Sized c) vs ≡ true
sized_before c [] e = refl
sized_before c (kind.Mark m ∷ vs) e = sized_before_mark c m vs e
sized_before c (kind.Word n ∷ vs) e = refl
sized_before c (kind.Key k ∷ vs) e = refl
sized_before c (kind.Decimal d ∷ vs) e = refl
sized_before c (kind.Sized d ∷ vs) e = refl

after_paren : (op : UnOp) → may_follow (kind.Mark mark.LeftParen) (kind.Mark (unary_mark op)) ≡ true
after_paren un.Not = refl
after_paren _ = refl

after_assign : (op : UnOp) → may_follow (kind.Mark mark.Assign) (kind.Mark (unary_mark op)) ≡ true
after_assign un.Not = refl
after_assign _ = refl

unary_follows : (t : TokenKind) (op : UnOp) → opens t ≡ true → may_follow t (kind.Mark (unary_mark op)) ≡ true
unary_follows (kind.Mark mark.LeftParen) op e = after_paren op
unary_follows (kind.Mark mark.Assign) op e = after_assign op
unary_follows (kind.Mark mark.LeftBrace) op e = refl
unary_follows (kind.Mark mark.Comma) op e = refl
unary_follows (kind.Mark mark.LessEqual) op e = refl
unary_follows (kind.Mark _) op e = absurd cc
unary_follows (kind.Word n) op e = absurd cc
unary_follows (kind.Key k) op e = absurd cc
unary_follows (kind.Decimal d) op e = absurd cc
unary_follows (kind.Sized c) op e = absurd cc

binary_no_question : (op : BinOp) (vs : List TokenKind) → no_question (kind.Mark (binary_mark op) ∷ vs) ≡ true
binary_no_question bin.Add vs = refl
binary_no_question _ vs = refl

-- ---- parts of parts

-- where a token is added behind a part
step : (t : TokenKind) (us : List TokenKind) → follows t us ≡ true → all_follow us ≡ true → all_follow (t ∷ us) ≡ true
step t us p q = both (follows t us) (all_follow us) p q

pub step_word : (n : List ℕ) (us : List TokenKind) → all_follow us ≡ true → all_follow (kind.Word n ∷ us) ≡ true
step_word n us h = step (kind.Word n) us (word_before n us) h

pub step_key : (k : _) (us : List TokenKind) → all_follow us ≡ true → all_follow (kind.Key k ∷ us) ≡ true
step_key k us h = step (kind.Key k) us (key_before k us) h

pub step_decimal : (d : ℕ) (us : List TokenKind) → all_follow us ≡ true → all_follow (kind.Decimal d ∷ us) ≡ true
step_decimal d us h = step (kind.Decimal d) us (decimal_before d us) h

pub step_plain : (m : Mark) (us : List TokenKind) → lengthening m ≡ [] → all_follow us ≡ true → all_follow (kind.Mark m ∷ us) ≡ true
step_plain m us e h = step (kind.Mark m) us (plain_follows m us e) h

pub step_part : (t : TokenKind) (O : TokenKind → Bool) (G : List TokenKind → Bool) (us vs : List TokenKind) → Part O G us → O t ≡ true → G vs ≡ true → all_follow vs ≡ true → all_follow (t ∷ us ++ vs) ≡ true
step_part t O G us vs p o g h = step t (us ++ vs) (p.starts t vs o) (p.flows vs g h)

pub any_is_primary : (us : List TokenKind) → Part any_token any_list us → Part any_token no_question us
any_is_primary us p = record { starts = p.starts; flows = λ vs q h. p.flows vs refl h }

pub atom_is_expr : (us : List TokenKind) → Part any_token no_question us → Part opens no_question us
atom_is_expr us p = record { starts = λ t vs o. p.starts t vs refl; flows = p.flows }

pub sized_part : (c : _) → Part any_token no_question (kind.Sized c ∷ [])
sized_part c = record { starts = λ t vs o. sized_follows t; flows = λ vs q h. step (kind.Sized c) vs (sized_before c vs q) h }
  where
    sized_follows : (t : TokenKind) → may_follow t (kind.Sized c) ≡ true
    sized_follows (kind.Mark m) = refl
    sized_follows (kind.Word w) = refl
    sized_follows (kind.Key k) = refl
    sized_follows (kind.Decimal d) = refl
    sized_follows (kind.Sized d) = refl

pub name_part : (n : List ℕ) → Part any_token any_list (kind.Word n ∷ [])
name_part n = record { starts = λ t vs o. word_follows t n; flows = λ vs q h. step_word n vs h }

pub bit_part : (n : List ℕ) (d : ℕ) → Part any_token any_list (kind.Word n ∷ index_tokens d)
bit_part n d = record {
  starts = λ t vs o. word_follows t n;
  flows = λ vs q h. step_plain mark.RightBracket vs refl h;
}

pub part_part : (n : List ℕ) (l r : ℕ) → Part any_token any_list (kind.Word n ∷ range_tokens l r)
part_part n l r = record {
  starts = λ t vs o. word_follows t n;
  flows = λ vs q h. step_plain mark.RightBracket vs refl h;
}

pub paren_part : (us : List TokenKind) → Part opens no_question us → Part any_token any_list (parenthesized us)
paren_part us p = record {
  starts = λ t vs o. paren_follows t;
  flows = λ vs q h.
      let P : List TokenKind → Type 0 = λ ts. all_follow (kind.Mark mark.LeftParen ∷ ts) ≡ true in
      subst P (sym (append_assoc us (kind.Mark mark.RightParen ∷ []) vs)) (step_part (kind.Mark mark.LeftParen) opens no_question us (kind.Mark mark.RightParen ∷ vs) p refl refl (step_plain mark.RightParen vs refl h));
}

pub brace_part : (us : List TokenKind) → Part opens no_question us → Part any_token any_list (braced us)
brace_part us p = record {
  starts = λ t vs o. brace_follows t;
  flows = λ vs q h.
      let P : List TokenKind → Type 0 = λ ts. all_follow (kind.Mark mark.LeftBrace ∷ ts) ≡ true in
      subst P (sym (append_assoc us (kind.Mark mark.RightBrace ∷ []) vs)) (step_part (kind.Mark mark.LeftBrace) opens no_question us (kind.Mark mark.RightBrace ∷ vs) p refl refl (step_plain mark.RightBrace vs refl h));
}

-- `{n{..}}`
pub repeat_part : (d : ℕ) (us : List TokenKind) → Part opens no_question us → Part any_token any_list (braced (kind.Decimal d ∷ braced us))
repeat_part d us p = record {
  starts = λ t vs o. brace_follows t;
  flows = λ vs q h.
      let inner = brace_part us p in
      let P : List TokenKind → Type 0 = λ ts. all_follow (kind.Mark mark.LeftBrace ∷ kind.Decimal d ∷ ts) ≡ true in
      let rest = inner.flows (kind.Mark mark.RightBrace ∷ vs) refl (step_plain mark.RightBrace vs refl h) in
      subst P (sym (append_assoc (braced us) (kind.Mark mark.RightBrace ∷ []) vs)) (step_plain mark.LeftBrace (kind.Decimal d ∷ (braced us ++ kind.Mark mark.RightBrace ∷ vs)) refl (step_decimal d (braced us ++ kind.Mark mark.RightBrace ∷ vs) rest));
}

pub unary_part : (op : UnOp) (us : List TokenKind) → Part any_token no_question us → Part opens no_question (kind.Mark (unary_mark op) ∷ us)
unary_part op us p = record {
  starts = λ t vs o. unary_follows t op o;
  flows = λ vs q h. step_part (kind.Mark (unary_mark op)) any_token no_question us vs p refl q h;
}

-- two parts with a mark between them
joined_starts : (O : TokenKind → Bool) (G : List TokenKind → Bool) (us vs : List TokenKind) (m : Mark) → Part O G us → (t : TokenKind) (ws : List TokenKind) → O t ≡ true → follows t ((us ++ kind.Mark m ∷ vs) ++ ws) ≡ true
joined_starts O G us vs m p t ws o = let P : List TokenKind → Type 0 = λ ts. follows t ts ≡ true in subst P (sym (append_assoc us (kind.Mark m ∷ vs) ws)) (p.starts t (kind.Mark m ∷ (vs ++ ws)) o)

pub binary_part : (op : BinOp) (us vs : List TokenKind) → Part any_token no_question us → Part any_token no_question vs → Part any_token no_question (us ++ kind.Mark (binary_mark op) ∷ vs)
binary_part op us vs p q = record {
  starts = joined_starts any_token no_question us vs (binary_mark op) p;
  flows = λ ws g h.
      let P : List TokenKind → Type 0 = λ ts. all_follow ts ≡ true in
      subst P (sym (append_assoc us (kind.Mark (binary_mark op) ∷ vs) ws))
      (p.flows (kind.Mark (binary_mark op) ∷ (vs ++ ws)) (binary_no_question op (vs ++ ws)) (step_part (kind.Mark (binary_mark op)) any_token no_question vs ws q refl g h));
}

pub cond_part : (cs us vs : List TokenKind) → Part any_token any_list cs → Part any_token no_question us → Part any_token no_question vs
    → Part any_token no_question (cs ++ kind.Mark mark.Question ∷ (us ++ kind.Mark mark.Colon ∷ vs))
cond_part cs us vs c p q = record {
  starts = joined_starts any_token any_list cs (us ++ kind.Mark mark.Colon ∷ vs) mark.Question c;
  flows = λ ws g h.
      let P : List TokenKind → Type 0 = λ ts. all_follow ts ≡ true in
      let inner : all_follow (kind.Mark mark.Question ∷ (us ++ kind.Mark mark.Colon ∷ (vs ++ ws))) ≡ true =
      step_part (kind.Mark mark.Question) any_token no_question us (kind.Mark mark.Colon ∷ (vs ++ ws)) p refl refl (step_part (kind.Mark mark.Colon) any_token no_question vs ws q refl g h) in
      let Q : List TokenKind → Type 0 = λ ts. all_follow (kind.Mark mark.Question ∷ ts) ≡ true in
      subst P (sym (append_assoc cs (kind.Mark mark.Question ∷ (us ++ kind.Mark mark.Colon ∷ vs)) ws))
      (c.flows (kind.Mark mark.Question ∷ ((us ++ kind.Mark mark.Colon ∷ vs) ++ ws)) refl (subst Q (sym (append_assoc us (kind.Mark mark.Colon ∷ vs) ws)) inner));
}

-- ---- forms of expressions

abbrev pub HasShape : Form → List TokenKind → Type 0
HasShape form.Constant us = Part any_token no_question us
HasShape form.Primary us = Part any_token any_list us
HasShape form.Operation us = Part opens no_question us

pub shape_part : (f : Form) (us : List TokenKind) → HasShape f us → Part opens no_question us
shape_part form.Constant us p = atom_is_expr us p
shape_part form.Primary us p = atom_is_expr us (any_is_primary us p)
shape_part form.Operation us p = p

pub operand_part : (f : Form) (us : List TokenKind) → HasShape f us → Part any_token no_question (as_operand f us)
operand_part form.Constant us p = p
operand_part form.Primary us p = any_is_primary us p
operand_part form.Operation us p = any_is_primary (parenthesized us) (paren_part us p)

pub condition_part : (f : Form) (us : List TokenKind) → HasShape f us → Part any_token any_list (as_condition f us)
condition_part form.Constant us p = paren_part us (atom_is_expr us p)
condition_part form.Primary us p = p
condition_part form.Operation us p = paren_part us p

-- ---- lists with commas

pub comma_part : (O : TokenKind → Bool) (G : List TokenKind → Bool) (us vs : List TokenKind) → O (kind.Mark mark.Comma) ≡ true → ((ts : List TokenKind) → G (kind.Mark mark.Comma ∷ ts) ≡ true)
    → Part O G us → Part O G vs → Part O G (us ++ kind.Mark mark.Comma ∷ vs)
comma_part O G us vs o g p q = record {
  starts = joined_starts O G us vs mark.Comma p;
  flows = λ ws goes h.
      let P : List TokenKind → Type 0 = λ ts. all_follow ts ≡ true in
      subst P (sym (append_assoc us (kind.Mark mark.Comma ∷ vs) ws)) (p.flows (kind.Mark mark.Comma ∷ (vs ++ ws)) (g (vs ++ ws)) (step_part (kind.Mark mark.Comma) O G vs ws q o goes h));
}

more_flows : (O : TokenKind → Bool) (G : List TokenKind → Bool) → O (kind.Mark mark.Comma) ≡ true → ((ts : List TokenKind) → G (kind.Mark mark.Comma ∷ ts) ≡ true)
    → (all : List (List TokenKind)) (vs : List TokenKind) → AllByRecursion (Part O G) all → G vs ≡ true → all_follow vs ≡ true → (G (more all ++ vs) ≡ true) × (all_follow (more all ++ vs) ≡ true)
more_flows O G o g [] vs parts goes h = (goes, h)
more_flows O G o g (us ∷ all) vs parts goes h =
    let rest = more_flows O G o g all vs parts.1 goes h in
    let P : List TokenKind → Type 0 = λ ts. all_follow (kind.Mark mark.Comma ∷ ts) ≡ true in
    (g ((us ++ more all) ++ vs), subst P (sym (append_assoc us (more all) vs)) (step_part (kind.Mark mark.Comma) O G us (more all ++ vs) parts.0 o rest.0 rest.1))

pub separated_part : (O : TokenKind → Bool) (G : List TokenKind → Bool) → O (kind.Mark mark.Comma) ≡ true → ((ts : List TokenKind) → G (kind.Mark mark.Comma ∷ ts) ≡ true)
    → (us : List TokenKind) (all : List (List TokenKind)) → Part O G us → AllByRecursion (Part O G) all → Part O G (separated (us ∷ all))
separated_part O G o g us all p parts = record {
  starts = λ t vs before. let P : List TokenKind → Type 0 = λ ts. follows t ts ≡ true in subst P (sym (append_assoc us (more all) vs)) (p.starts t (more all ++ vs) before);
  flows = λ vs goes h.
      let rest = more_flows O G o g all vs parts goes h in
      let P : List TokenKind → Type 0 = λ ts. all_follow ts ≡ true in
      subst P (sym (append_assoc us (more all) vs)) (p.flows (more all ++ vs) rest.0 rest.1);
}
