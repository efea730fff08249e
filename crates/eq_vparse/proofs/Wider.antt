-- What has a tree within limits has it within wider ones.
use Rattle.std.proofs.Common.{◌≡◌, ℕ, zero, suc, ◌+◌, ◌≤◌, Bool, true, false, List, [], ◌∷◌, Option, Some, None, inl, inr, arith}
use Rattle.eq_vlex.specs.declared.key.Key.TheVariants.{Begin, End, Else, Posedge}
use Rattle.eq_vlex.specs.declared.mark.Mark.TheVariants.{LessEqual, Semicolon, Comma, At, LeftParen, RightParen, Assign as Equals}
use Rattle.eq_vlex.specs.declared.token.TokenKind.{TokenKind}
use Rattle.eq_vparse.specs.declared.tree.Expr.{Expr}
use Rattle.eq_vparse.specs.declared.tree.GateKind.{GateKind}
use Rattle.eq_vparse.specs.declared.tree.Item.{Item}
use Rattle.eq_vparse.specs.declared.tree.Item.TheVariants.{Always}
use Rattle.eq_vparse.specs.declared.tree.Range.{Range}
use Rattle.eq_vparse.specs.declared.tree.Source.{Source}
use Rattle.eq_vparse.specs.declared.tree.Stmt.{Stmt}
use Rattle.eq_vparse.specs.declared.tree.Stmt.TheVariants.{Set}
use Rattle.eq_vparse.specs.declared.tree.Stmt.TheViews.{Block, If}
use Rattle.eq_vparse.specs.Rules as rule
use Rattle.eq_vparse.specs.Rules.{Rule, name, sized, key, mark, give, maybe, many, separated, AreMany}
use Rattle.eq_vparse.specs.Limits.{Limits}
use Rattle.eq_vparse.specs.Statements.{expr_within, target_within, condition, stmt_up_to, stmt}
use Rattle.eq_vparse.specs.Grammar.{clock, listed, wire, assignment, terminals, named, conns, instance, init, item, design, source, HasTree}
use Rattle.eq_vparse.proofs.Agreement.{Chain}
use Rattle.eq_vparse.proofs.Trees.{one_tree_within}

-- each sentence of the first is one of the second
abbrev Sub : {A : Type 0} → (List TokenKind → A → Type 0) → (List TokenKind → A → Type 0) → Type 0
Sub G H = (us : List TokenKind) (a : _) → G us a → H us a

all_of : {A : Type 0} (G : List TokenKind → A → Type 0) → Sub G G
all_of G us a h = h

chain_sub : {A B : Type 0} (G H : List TokenKind → A → Type 0) (K L : A → List TokenKind → B → Type 0) → Sub G H → ((a : A) → Sub (K a) (L a)) → Sub (Chain G K) (Chain H L)
chain_sub G H K L g k us b s = (s.0, s.1, s.2, s.3, g s.0 s.2 s.4, k s.2 s.1 b s.5)

maybe_sub : {A : Type 0} (g h : Rule A) → Sub g.sentence h.sentence → Sub (maybe g).sentence (maybe h).sentence
maybe_sub g h sub us None s = s
maybe_sub g h sub us (Some a) s = sub us a s

many_sub : {A : Type 0} (g h : Rule A) → Sub g.sentence h.sentence → Sub (many g).sentence (many h).sentence
many_sub g h sub us [] s = s
many_sub g h sub us (a ∷ rest) s = (s.0, s.1, s.2, sub s.0 a s.3, many_sub g h sub s.1 rest s.4)

separated_sub : {A : Type 0} (g h : Rule A) → Sub g.sentence h.sentence → Sub (separated g).sentence (separated h).sentence
separated_sub g h sub = chain_sub _ _ _ _ sub (λ a. chain_sub _ _ _ _ (many_sub (rule.◌>>=◌ (mark Comma) (λ _. g)) (rule.◌>>=◌ (mark Comma) (λ _. h)) (chain_sub _ _ _ _ (λ us x k. k) (λ _. sub))) (λ rest us x k. k))

listed_sub : (g h : Rule (List Item)) → Sub g.sentence h.sentence → Sub (listed g).sentence (listed h).sentence
listed_sub g h sub = chain_sub _ _ _ _ (separated_sub g h sub) (λ lists us x k. k)

abbrev driver : Limits → Rule Expr
driver l = rule.◌>>=◌ (mark Equals) (λ _. expr_within l)

abbrev always : Limits → Rule (List Item)
always l =
    rule.◌>>=◌ (mark At) (λ _. rule.◌>>=◌ (mark LeftParen) (λ _. rule.◌>>=◌ (key Posedge) (λ _. rule.◌>>=◌ clock (λ c. rule.◌>>=◌ (mark RightParen) (λ _. rule.◌>>=◌ (stmt l) (λ s. give (Always c s ∷ [])))))))

abbrev inits : Limits → Rule (List Item)
inits l = rule.◌>>=◌ (key Begin) (λ _. rule.◌>>=◌ (many (init l)) (λ list. rule.◌>>=◌ (key End) (λ _. give list)))

-- ---- the parts of a statement

abbrev set : Limits → Rule Stmt
set l = rule.◌>>=◌ (target_within l) (λ t. rule.◌>>=◌ (mark LessEqual) (λ _. rule.◌>>=◌ (expr_within l) (λ e. rule.◌>>=◌ (mark Semicolon) (λ _. give (Set t e)))))

abbrev block : Rule Stmt → Rule Stmt
block g = rule.◌>>=◌ (key Begin) (λ _. rule.◌>>=◌ (many g) (λ body. rule.◌>>=◌ (key End) (λ _. give (Block body))))

abbrev if_else : Limits → Rule Stmt → Rule Stmt → Rule Stmt
if_else l g h = rule.◌>>=◌ (condition l) (λ c. rule.◌>>=◌ g (λ s. rule.◌>>=◌ (key Else) (λ _. rule.◌>>=◌ h (λ t. give (If c s (Some t))))))

abbrev only_if : Limits → Rule Stmt → Rule Stmt
only_if l g = rule.◌>>=◌ (condition l) (λ c. rule.◌>>=◌ g (λ s. give (If c s None)))

module _ (l m : Limits) (marks : l.marks ≤ m.marks) (levels : l.levels ≤ m.levels) where
  expr_wider : Sub (expr_within l).sentence (expr_within m).sentence
  expr_wider us e h = (h.0, omega (arith, h.1, marks))

  driver_wider : Sub (driver l).sentence (driver m).sentence
  driver_wider = chain_sub _ _ _ _ (λ us x k. k) (λ _. expr_wider)

  target_wider : Sub (target_within l).sentence (target_within m).sentence
  target_wider us t h = (h.0, omega (arith, h.1, marks))

  condition_wider : Sub (condition l).sentence (condition m).sentence
  condition_wider = chain_sub _ _ _ _ (λ us x k. k) (λ _. chain_sub _ _ _ _ (λ us x k. k) (λ _. chain_sub _ _ _ _ expr_wider (λ c us x k. k)))

  -- a target, `<=` and an expression
  set_wider : Sub (set l).sentence (set m).sentence
  set_wider = chain_sub _ _ _ _ target_wider (λ t. chain_sub _ _ _ _ (λ us x k. k) (λ _. chain_sub _ _ _ _ expr_wider (λ e us x k. k)))

  block_wider : (g h : Rule Stmt) → Sub g.sentence h.sentence → Sub (block g).sentence (block h).sentence
  block_wider g h sub = chain_sub _ _ _ _ (λ us x k. k) (λ _. chain_sub _ _ _ _ (many_sub g h sub) (λ body us x k. k))

  if_else_wider : (g h v w : Rule Stmt) → Sub g.sentence h.sentence → Sub v.sentence w.sentence → Sub (if_else l g v).sentence (if_else m h w).sentence
  if_else_wider g h v w sub more = chain_sub _ _ _ _ condition_wider (λ c. chain_sub _ _ _ _ sub (λ a. chain_sub _ _ _ _ (λ us x k. k) (λ _. chain_sub _ _ _ _ more (λ b us x k. k))))

  if_wider : (g h : Rule Stmt) → Sub g.sentence h.sentence → Sub (only_if l g).sentence (only_if m h).sentence
  if_wider g h sub = chain_sub _ _ _ _ condition_wider (λ c. chain_sub _ _ _ _ sub (λ a us x k. k))

  stmt_wider : (n k : ℕ) (d : Bool) → n ≤ k → Sub (stmt_up_to l n d).sentence (stmt_up_to m k d).sentence
  stmt_wider zero k d le us s h = absurd h
  stmt_wider (suc n) zero d le us s h = absurd (omega (arith, le))
  stmt_wider (suc n) (suc k) d le us s (inl h) = inl h
  stmt_wider (suc n) (suc k) d le us s (inr (inl h)) = inr (inl (set_wider us s h))
  stmt_wider (suc n) (suc k) d le us s (inr (inr (inl h))) = inr (inr (inl (block_wider (stmt_up_to l n true) (stmt_up_to m k true) (stmt_wider n k true (omega (arith, le))) us s h)))
  stmt_wider (suc n) (suc k) d le us s (inr (inr (inr (inl h)))) =
      inr (inr (inr (inl (if_else_wider (stmt_up_to l n false) (stmt_up_to m k false) (stmt_up_to l n d) (stmt_up_to m k d) (stmt_wider n k false (omega (arith, le))) (stmt_wider n k d (omega (arith, le))) us s h))))
  stmt_wider (suc n) (suc k) true le us s (inr (inr (inr (inr h)))) =
      inr (inr (inr (inr (if_wider (stmt_up_to l n true) (stmt_up_to m k true) (stmt_wider n k true (omega (arith, le))) us s h))))
  stmt_wider (suc n) (suc k) false le us s (inr (inr (inr (inr h)))) = absurd h

  body_wider : Sub (stmt l).sentence (stmt m).sentence
  body_wider = stmt_wider (suc l.levels) (suc m.levels) true (omega (arith, levels))

  init_wider : Sub (init l).sentence (init m).sentence
  init_wider = chain_sub _ _ _ _ target_wider (λ t us x k. k)

  named_wider : Sub (named l).sentence (named m).sentence
  named_wider = chain_sub _ _ _ _ (λ us x k. k) (λ _. chain_sub _ _ _ _ (λ us x k. k) (λ p. chain_sub _ _ _ _ (λ us x k. k) (λ _. chain_sub _ _ _ _ (maybe_sub (expr_within l) (expr_within m) expr_wider) (λ e us x k. k))))

  conns_wider : Sub (conns l).sentence (conns m).sentence
  conns_wider us cs (inl h) = inl h
  conns_wider us cs (inr (inl h)) = inr (inl (h.0, h.1, h.2, h.3, (separated_sub (maybe (expr_within l)) (maybe (expr_within m)) (maybe_sub (expr_within l) (expr_within m) expr_wider) h.0 h.2 h.4.0, h.4.1), h.5))
  conns_wider us cs (inr (inr h)) = inr (inr (h.0, h.1, h.2, h.3, separated_sub (named l) (named m) named_wider h.0 h.2 h.4, h.5))

  wire_wider : (r : Option Range) → Sub (wire l r).sentence (wire m r).sentence
  wire_wider r = chain_sub _ _ _ _ (λ us x k. k) (λ n. chain_sub _ _ _ _ (maybe_sub (driver l) (driver m) driver_wider) (λ e us x k. k))

  assignment_wider : Sub (assignment l).sentence (assignment m).sentence
  assignment_wider = chain_sub _ _ _ _ target_wider (λ t. chain_sub _ _ _ _ (λ us x k. k) (λ _. chain_sub _ _ _ _ expr_wider (λ e us x k. k)))

  terminals_wider : (g : GateKind) → Sub (terminals l g).sentence (terminals m g).sentence
  terminals_wider g = chain_sub _ _ _ _ (λ us x k. k) (λ n. chain_sub _ _ _ _ (λ us x k. k) (λ _. chain_sub _ _ _ _ (separated_sub (expr_within l) (expr_within m) expr_wider) (λ es us x k. k)))

  instance_wider : (w : List ℕ) → Sub (instance l w).sentence (instance m w).sentence
  instance_wider w = chain_sub _ _ _ _ (λ us x k. k) (λ n. chain_sub _ _ _ _ (λ us x k. k) (λ _. chain_sub _ _ _ _ conns_wider (λ cs us x k. k)))

  always_wider : Sub (always l).sentence (always m).sentence
  always_wider =
      chain_sub _ _ _ _ (λ us x k. k) (λ _. chain_sub _ _ _ _ (λ us x k. k) (λ _. chain_sub _ _ _ _ (λ us x k. k) (λ _. chain_sub _ _ _ _ (λ us x k. k) (λ c. chain_sub _ _ _ _ (λ us x k. k) (λ _. chain_sub _ _ _ _ body_wider (λ s us x k. k))))))

  inits_wider : Sub (inits l).sentence (inits m).sentence
  inits_wider = chain_sub _ _ _ _ (λ us x k. k) (λ _. chain_sub _ _ _ _ (many_sub (init l) (init m) init_wider) (λ list us x k. k))

  item_wider : Sub (item l).sentence (item m).sentence
  item_wider us a (inl h) = inl h
  item_wider us a (inr (inl h)) = inr (inl h)
  item_wider us a (inr (inr (inl h))) = inr (inr (inl h))
  item_wider us a (inr (inr (inr (inl h)))) = inr (inr (inr (inl h)))
  item_wider us a (inr (inr (inr (inr (inl h))))) =
      (let k = h.5 in inr (inr (inr (inr (inl (h.0, h.1, h.2, h.3, h.4, (k.0, k.1, k.2, k.3, k.4, listed_sub (wire l k.2) (wire m k.2) (wire_wider k.2) k.1 a k.5)))))))
  item_wider us a (inr (inr (inr (inr (inr (inl h)))))) = inr (inr (inr (inr (inr (inl (h.0, h.1, h.2, h.3, h.4, listed_sub (assignment l) (assignment m) assignment_wider h.1 a h.5))))))
  item_wider us a (inr (inr (inr (inr (inr (inr (inl h))))))) =
      inr (inr (inr (inr (inr (inr (inl (h.0, h.1, h.2, h.3, h.4, listed_sub (terminals l h.2) (terminals m h.2) (terminals_wider h.2) h.1 a h.5)))))))
  item_wider us a (inr (inr (inr (inr (inr (inr (inr (inl h)))))))) =
      inr (inr (inr (inr (inr (inr (inr (inl (h.0, h.1, h.2, h.3, h.4, listed_sub (instance l h.2) (instance m h.2) (instance_wider h.2) h.1 a h.5))))))))
  item_wider us a (inr (inr (inr (inr (inr (inr (inr (inr (inl h))))))))) = inr (inr (inr (inr (inr (inr (inr (inr (inl (h.0, h.1, h.2, h.3, h.4, always_wider h.1 a h.5)))))))))
  item_wider us a (inr (inr (inr (inr (inr (inr (inr (inr (inr (inl h)))))))))) =
      (let k = h.5 in inr (inr (inr (inr (inr (inr (inr (inr (inr (inl (h.0, h.1, h.2, h.3, h.4, (k.0, k.1, k.2, k.3, init_wider k.0 k.2 k.4, k.5))))))))))))
  item_wider us a (inr (inr (inr (inr (inr (inr (inr (inr (inr (inr h)))))))))) = inr (inr (inr (inr (inr (inr (inr (inr (inr (inr (h.0, h.1, h.2, h.3, h.4, inits_wider h.1 a h.5))))))))))

  design_wider : Sub (design l).sentence (design m).sentence
  design_wider = chain_sub _ _ _ _ (λ us x k. k) (λ _. chain_sub _ _ _ _ (λ us x k. k) (λ n. chain_sub _ _ _ _ (λ us x k. k) (λ h. chain_sub _ _ _ _ (λ us x k. k) (λ _. chain_sub _ _ _ _ (many_sub (item l) (item m) item_wider) (λ lists us x k. k)))))

  pub source_wider : Sub (source l).sentence (source m).sentence
  source_wider = chain_sub _ _ _ _ (many_sub (design l) (design m) design_wider) (λ ms us x k. k)

-- ---- one tree, within any limits

abbrev both : Limits → Limits → Limits
both l m = record { marks = l.marks + m.marks; levels = l.levels + m.levels }

pub one_tree : (ts : List TokenKind) (s t : Source) → HasTree ts s → HasTree ts t → s ≡ t
one_tree ts s t h k =
    let l = h.0 in
    let m = k.0 in
    one_tree_within (both l m) ts s t (source_wider l (both l m) (omega arith) (omega arith) ts s h.1) (source_wider m (both l m) (omega arith) (omega arith) ts t k.1)
