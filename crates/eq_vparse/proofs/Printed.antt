-- What is written of each kind of expression, target and statement.
use Rattle.std.proofs.Common.{◌≡◌, ℕ, ◌+◌, ◌<◌, List, [], ◌∷◌, ◌++◌, length, map, take, get_or, Some, None, refl, sym, ap, ◌∙◌, arith, append_assoc}
use Rattle.std.proofs.lemmas.List.{append-nil, flat_map_more, map-append, take_more, length-map, length-take-le}
use Rattle.std.specs.List.{flat_map}
use Rattle.eq_vlex.specs.declared.key.Key.TheVariants as key
use Rattle.eq_vlex.specs.declared.mark.Mark.TheVariants as mark
use Rattle.eq_vlex.specs.declared.token.Constant.{Constant}
use Rattle.eq_vlex.specs.declared.token.TokenKind.{TokenKind}
use Rattle.eq_vlex.specs.declared.token.TokenKind.TheVariants as kind
use Rattle.eq_vparse.specs.declared.shape.Form.TheVariants as form
use Rattle.eq_vparse.specs.declared.tree.UnOp.{UnOp}
use Rattle.eq_vparse.specs.declared.tree.BinOp.{BinOp}
use Rattle.eq_vparse.specs.declared.tree.Expr.{Expr}
use Rattle.eq_vparse.specs.declared.tree.Expr.TheVariants.{Const, Net, Bit, Part, rolls-Const, rolls-Net, rolls-Bit, rolls-Part, rolls-Concat, rolls-Repeat, rolls-Unary, rolls-Binary, rolls-Cond}
use Rattle.eq_vparse.specs.declared.tree.Expr.TheViews.{Concat, Repeat, Unary, Binary, Cond}
use Rattle.eq_vparse.specs.declared.tree.Expr.TheOpen.{Const as const_layer, Net as net_layer, Bit as bit_layer, Part as part_layer, Concat as concat_layer, Repeat as repeat_layer, Unary as unary_layer, Binary as binary_layer, Cond as cond_layer}
use Rattle.eq_vparse.specs.declared.tree.Expr.TheFolds.{fold-roll-Expr}
use Rattle.eq_vparse.specs.declared.tree.Target.{Target}
use Rattle.eq_vparse.specs.declared.tree.Target.TheVariants.{Net as TargetNet, Bit as TargetBit, Part as TargetPart, rolls-Net as rolls-TargetNet, rolls-Bit as rolls-TargetBit, rolls-Part as rolls-TargetPart, rolls-Concat as rolls-TargetConcat}
use Rattle.eq_vparse.specs.declared.tree.Target.TheViews.{Concat as TargetConcat}
use Rattle.eq_vparse.specs.declared.tree.Target.TheOpen.{Net as target_net_layer, Bit as target_bit_layer, Part as target_part_layer, Concat as target_concat_layer}
use Rattle.eq_vparse.specs.declared.tree.Target.TheFolds.{fold-roll-Target}
use Rattle.eq_vparse.specs.declared.tree.Stmt.{Stmt}
use Rattle.eq_vparse.specs.declared.tree.Stmt.TheVariants.{Empty, Set, rolls-Empty, rolls-Set, rolls-Block, rolls-If}
use Rattle.eq_vparse.specs.declared.tree.Stmt.TheViews.{Block, If}
use Rattle.eq_vparse.specs.declared.tree.Stmt.TheOpen.{Empty as empty_layer, Set as set_layer, Block as block_layer, If as if_layer}
use Rattle.eq_vparse.specs.declared.tree.Stmt.TheFolds.{fold-roll-Stmt}
use Rattle.eq_vparse.specs.Phrases.{index_tokens, range_tokens}
use Rattle.eq_vparse.specs.Printing.{braced, unary_mark, binary_mark, Shown, expr_layer, shown, expr_tokens, operand_tokens, condition_tokens, exprs_tokens, separated, more, comma_at, target_layer, target_tokens, targets_tokens, set_tokens, block_tokens, if_tokens, stmt_layer, stmt_tokens, stmts_tokens}
use Rattle.eq_vparse.specs.declared.text.Text.{Text}
use Rattle.eq_vparse.specs.Text.{put, put_all}
use Rattle.eq_vparse.proofs.Texts.{put_append}

same_parts : (es : List Expr) → map (λ (s : Shown). s.1) (map shown es) ≡ map expr_tokens es
same_parts [] = refl
same_parts (e ∷ es) = ap (λ (x : List (List TokenKind)). expr_tokens e ∷ x) (same_parts es)

pub shown_const : (c : Constant) → shown (Const c) ≡ (form.Constant, kind.Sized c ∷ [])
shown_const c = ap shown (sym (rolls-Const c)) ∙ fold-roll-Expr Shown expr_layer (const_layer c)

pub shown_net : (n : List ℕ) → shown (Net n) ≡ (form.Primary, kind.Word n ∷ [])
shown_net n = ap shown (sym (rolls-Net n)) ∙ fold-roll-Expr Shown expr_layer (net_layer n)

pub shown_bit : (n : List ℕ) (d : ℕ) → shown (Bit n d) ≡ (form.Primary, kind.Word n ∷ index_tokens d)
shown_bit n d = ap shown (sym (rolls-Bit n d)) ∙ fold-roll-Expr Shown expr_layer (bit_layer n d)

pub shown_part : (n : List ℕ) (l r : ℕ) → shown (Part n l r) ≡ (form.Primary, kind.Word n ∷ range_tokens l r)
shown_part n l r = ap shown (sym (rolls-Part n l r)) ∙ fold-roll-Expr Shown expr_layer (part_layer n l r)

pub shown_concat : (es : List Expr) → shown (Concat es) ≡ (form.Primary, braced (exprs_tokens es))
shown_concat es = ap shown (sym (rolls-Concat es)) ∙ fold-roll-Expr Shown expr_layer (concat_layer es) ∙ ap (λ (x : List (List TokenKind)). (form.Primary, braced (separated x))) (same_parts es)

pub shown_repeat : (d : ℕ) (es : List Expr) → shown (Repeat d es) ≡ (form.Primary, braced (kind.Decimal d ∷ braced (exprs_tokens es)))
shown_repeat d es = ap shown (sym (rolls-Repeat d es)) ∙ fold-roll-Expr Shown expr_layer (repeat_layer d es) ∙ ap (λ (x : List (List TokenKind)). (form.Primary, braced (kind.Decimal d ∷ braced (separated x)))) (same_parts es)

pub shown_unary : (op : UnOp) (a : Expr) → shown (Unary op a) ≡ (form.Operation, kind.Mark (unary_mark op) ∷ operand_tokens a)
shown_unary op a = ap shown (sym (rolls-Unary op a)) ∙ fold-roll-Expr Shown expr_layer (unary_layer op a)

pub shown_binary : (op : BinOp) (a b : Expr) → shown (Binary op a b) ≡ (form.Operation, operand_tokens a ++ kind.Mark (binary_mark op) ∷ operand_tokens b)
shown_binary op a b = ap shown (sym (rolls-Binary op a b)) ∙ fold-roll-Expr Shown expr_layer (binary_layer op a b)

pub shown_cond : (c a b : Expr) → shown (Cond c a b) ≡ (form.Operation, condition_tokens c ++ kind.Mark mark.Question ∷ (operand_tokens a ++ kind.Mark mark.Colon ∷ operand_tokens b))
shown_cond c a b = ap shown (sym (rolls-Cond c a b)) ∙ fold-roll-Expr Shown expr_layer (cond_layer c a b)

-- ---- targets

pub target_net : (n : List ℕ) → target_tokens (TargetNet n) ≡ kind.Word n ∷ []
target_net n = ap target_tokens (sym (rolls-TargetNet n)) ∙ fold-roll-Target (List TokenKind) target_layer (target_net_layer n)

pub target_bit : (n : List ℕ) (d : ℕ) → target_tokens (TargetBit n d) ≡ kind.Word n ∷ index_tokens d
target_bit n d = ap target_tokens (sym (rolls-TargetBit n d)) ∙ fold-roll-Target (List TokenKind) target_layer (target_bit_layer n d)

pub target_part : (n : List ℕ) (l r : ℕ) → target_tokens (TargetPart n l r) ≡ kind.Word n ∷ range_tokens l r
target_part n l r = ap target_tokens (sym (rolls-TargetPart n l r)) ∙ fold-roll-Target (List TokenKind) target_layer (target_part_layer n l r)

pub target_concat : (ts : List Target) → target_tokens (TargetConcat ts) ≡ braced (targets_tokens ts)
target_concat ts = ap target_tokens (sym (rolls-TargetConcat ts)) ∙ fold-roll-Target (List TokenKind) target_layer (target_concat_layer ts)

-- ---- statements

pub stmt_empty : stmt_tokens Empty ≡ kind.Mark mark.Semicolon ∷ []
stmt_empty = ap stmt_tokens (sym rolls-Empty) ∙ fold-roll-Stmt (List TokenKind) stmt_layer empty_layer

pub stmt_set : (t : Target) (e : Expr) → stmt_tokens (Set t e) ≡ set_tokens t e
stmt_set t e = ap stmt_tokens (sym (rolls-Set t e)) ∙ fold-roll-Stmt (List TokenKind) stmt_layer (set_layer t e)

same_body : (ss : List Stmt) → flat_map (λ ts. ts) (map stmt_tokens ss) ≡ stmts_tokens ss
same_body [] = refl
same_body (s ∷ ss) = ap (λ (ts : List TokenKind). stmt_tokens s ++ ts) (same_body ss)

pub stmt_block : (ss : List Stmt) → stmt_tokens (Block ss) ≡ block_tokens (stmts_tokens ss)
stmt_block ss = ap stmt_tokens (sym (rolls-Block ss)) ∙ fold-roll-Stmt (List TokenKind) stmt_layer (block_layer ss) ∙ ap block_tokens (same_body ss)

pub stmt_if : (c : Expr) (a : Stmt) → stmt_tokens (If c a None) ≡ if_tokens c ++ stmt_tokens a
stmt_if c a = ap stmt_tokens (sym (rolls-If c a None)) ∙ fold-roll-Stmt (List TokenKind) stmt_layer (if_layer c a None) ∙ ap (λ (ts : List TokenKind). if_tokens c ++ ts) (append-nil (stmt_tokens a))

pub stmt_if_else : (c : Expr) (a b : Stmt) → stmt_tokens (If c a (Some b)) ≡ if_tokens c ++ (stmt_tokens a ++ kind.Key key.Else ∷ stmt_tokens b)
stmt_if_else c a b = ap stmt_tokens (sym (rolls-If c a (Some b))) ∙ fold-roll-Stmt (List TokenKind) stmt_layer (if_layer c a (Some b))

-- ---- what is put one behind the other

pub put_if : (text : Text) (c : Expr) (a : Stmt) → put_all (put_all text (if_tokens c)) (stmt_tokens a) ≡ put_all text (stmt_tokens (If c a None))
put_if text c a = sym (put_append text (if_tokens c) (stmt_tokens a)) ∙ ap (λ (ts : List TokenKind). put_all text ts) (sym (stmt_if c a))

pub put_if_else : (text : Text) (c : Expr) (a b : Stmt) → put_all (put (put_all (put_all text (if_tokens c)) (stmt_tokens a)) (kind.Key key.Else)) (stmt_tokens b) ≡ put_all text (stmt_tokens (If c a (Some b)))
put_if_else text c a b =
    sym (put_append text (if_tokens c) (stmt_tokens a ++ kind.Key key.Else ∷ stmt_tokens b) ∙ put_append (put_all text (if_tokens c)) (stmt_tokens a) (kind.Key key.Else ∷ stmt_tokens b))
    ∙ ap (λ (ts : List TokenKind). put_all text ts) (sym (stmt_if_else c a b))

pub put_binary : (text : Text) (op : BinOp) (a b : Expr) → put_all (put (put_all text (operand_tokens a)) (kind.Mark (binary_mark op))) (operand_tokens b) ≡ put_all text (expr_tokens (Binary op a b))
put_binary text op a b = sym (put_append text (operand_tokens a) (kind.Mark (binary_mark op) ∷ operand_tokens b)) ∙ ap (λ (s : Shown). put_all text s.1) (sym (shown_binary op a b))

pub put_cond : (text : Text) (c a b : Expr) → put_all (put (put_all (put (put_all text (condition_tokens c)) (kind.Mark mark.Question)) (operand_tokens a)) (kind.Mark mark.Colon)) (operand_tokens b) ≡ put_all text (expr_tokens (Cond c a b))
put_cond text c a b =
    sym (put_append text (condition_tokens c) (kind.Mark mark.Question ∷ (operand_tokens a ++ kind.Mark mark.Colon ∷ operand_tokens b))
    ∙ put_append (put (put_all text (condition_tokens c)) (kind.Mark mark.Question)) (operand_tokens a) (kind.Mark mark.Colon ∷ operand_tokens b))
    ∙ ap (λ (s : Shown). put_all text s.1) (sym (shown_cond c a b))

-- ---- lists with commas

separated_more : (all : List (List TokenKind)) (ts : List TokenKind) → separated (all ++ ts ∷ []) ≡ separated all ++ comma_at (length all) ++ ts
separated_more [] ts = append-nil ts
separated_more (us ∷ all) ts =
    ap (λ (x : List TokenKind). us ++ x) (flat_map_end all) ∙ sym (append_assoc us (more all) (kind.Mark mark.Comma ∷ ts))
    ∙ sym (append_assoc (us ++ more all) (kind.Mark mark.Comma ∷ []) ts)
  where
    flat_map_end : (all : List (List TokenKind)) → more (all ++ ts ∷ []) ≡ more all ++ kind.Mark mark.Comma ∷ ts
    flat_map_end [] = append-nil (kind.Mark mark.Comma ∷ ts)
    flat_map_end (us ∷ all) = ap (λ (x : List TokenKind). (kind.Mark mark.Comma ∷ us) ++ x) (flat_map_end all) ∙ sym (append_assoc (kind.Mark mark.Comma ∷ us) (more all) (kind.Mark mark.Comma ∷ ts))

-- one element more of a list, with its comma
pub put_next : {X : Type 0} (f : X → List TokenKind) (xs : List X) (i : ℕ) (x d : X) (text before behind after : Text) → i < length xs → x ≡ get_or xs i d
    → before ≡ put_all text (separated (map f (take i xs))) → behind ≡ put_all before (comma_at i) → after ≡ put_all behind (f x)
    → after ≡ put_all text (separated (map f (take (i + 1) xs)))
put_next {X = X} f xs i x d text before behind after lt is first second third =
    let front : take (i + 1) xs ≡ take i xs ++ x ∷ [] = take_more xs i d lt ∙ ap (λ (y : X). take i xs ++ y ∷ []) (sym is) in
    let mapped : map f (take (i + 1) xs) ≡ map f (take i xs) ++ f x ∷ [] = ap (map f) front ∙ map-append f (take i xs) (x ∷ []) in
    let len : length (map f (take i xs)) ≡ i = length-map (take i xs) f ∙ length-take-le i xs (omega arith) in
    let tokens : separated (map f (take (i + 1) xs)) ≡ separated (map f (take i xs)) ++ comma_at i ++ f x =
    ap separated mapped ∙ separated_more (map f (take i xs)) (f x) ∙ ap (λ (n : ℕ). separated (map f (take i xs)) ++ comma_at n ++ f x) len in
    third ∙ ap (λ (t : Text). put_all t (f x)) (second ∙ ap (λ (t : Text). put_all t (comma_at i)) first ∙ sym (put_append text (separated (map f (take i xs))) (comma_at i)))
    ∙ sym (put_append text (separated (map f (take i xs)) ++ comma_at i) (f x)) ∙ ap (λ (ts : List TokenKind). put_all text ts) (sym tokens)

-- ---- lists

-- one element more of a list
pub each_more : {X A : Type 0} (run : Text → List A → Text) (law : (t : Text) (us vs : List A) → run t (us ++ vs) ≡ run (run t us) vs) (f : X → List A) (xs : List X) (i : ℕ) (x d : X) (text before after : Text)
    → i < length xs → x ≡ get_or xs i d → before ≡ run text (flat_map f (take i xs)) → after ≡ run before (f x) → after ≡ run text (flat_map f (take (i + 1) xs))
each_more {X = X} {A = A} run law f xs i x d text before after lt is first second =
    let front : take (i + 1) xs ≡ take i xs ++ x ∷ [] = take_more xs i d lt ∙ ap (λ (y : X). take i xs ++ y ∷ []) (sym is) in
    let tokens : flat_map f (take i xs) ++ f x ≡ flat_map f (take (i + 1) xs) = flat_map_more f [] (take i xs) x ∙ ap (flat_map f) (sym front) in
    second ∙ ap (λ (t : Text). run t (f x)) first ∙ sym (law text (flat_map f (take i xs)) (f x)) ∙ ap (λ (us : List A). run text us) tokens
