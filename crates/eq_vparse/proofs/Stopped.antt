-- Where the reading of an expression stops, in the words of the grammar.
use Rattle.std.proofs.Common.{◌≡◌, ◌≢◌, ℕ, suc, List, ◌∷◌, ◌++◌, length, Ok, Err, sym, ap, ◌∙◌}
use Rattle.std.specs.Prelude.{Result, IfErr}
use Rattle.eq_vlex.specs.declared.token.TokenKind.{TokenKind}
use Rattle.eq_vparse.specs.declared.stop.Stop.{Stop}
use Rattle.eq_vparse.specs.declared.stop.Stop.TheVariants as stop
use Rattle.eq_vparse.specs.declared.tree.Expr.{Expr}
use Rattle.eq_vparse.specs.Reading.{Reads, stopped}
use Rattle.eq_vparse.specs.Machine.{expr_at}
use Rattle.eq_vparse.specs.Stopping.{IsFirstWrong, IsOneTooMany, StopsExpr}
use Rattle.eq_vparse.proofs.Stops.{expr_stops, expr_deep}
use Rattle.eq_vparse.proofs.Flat.{expr_stuck}

first_wrong : (k : ℕ) (ts : List TokenKind) (n : ℕ) → expr_at k ts ≡ stopped (stop.Syntax n) → IsFirstWrong k ts n
first_wrong k ts n is =
    let h = expr_stops k ts n is in
    record {
      before = h.0;
      rest = h.1;
      whole = h.2;
      place = h.3;
      front = h.4;
      none = λ t more e f.
          let whole : ts ≡ h.0 ++ t ∷ more = h.2 ∙ ap (λ (x : List TokenKind). h.0 ++ x) e in
          let left : n ≡ suc (length more) = sym h.3 ∙ ap length e in
          let stops : expr_at k (h.0 ++ t ∷ more) ≡ stopped (stop.Syntax (suc (length more))) = ap (expr_at k) (sym whole) ∙ is ∙ ap (λ (x : ℕ). stopped (stop.Syntax x)) left in
          expr_stuck k h.0 t more stops f;
    }

one_too_many : (k : ℕ) (ts : List TokenKind) (n : ℕ) → expr_at k ts ≡ stopped (stop.TooDeep n) → IsOneTooMany k ts n
one_too_many k ts n is =
    let h = expr_deep k ts n is in
    record { before = h.0; mark = h.1; rest = h.2; whole = h.3; place = h.4; front = h.5; as_many = h.6; counted = h.7 }

stops_at : (k : ℕ) (ts : List TokenKind) (e : Stop) → (e ≢ stop.Memory → expr_at k ts ≡ stopped e) → StopsExpr k ts e
stops_at k ts (stop.Syntax left) h = first_wrong k ts left (h (λ x. absurd cc))
stops_at k ts (stop.TooDeep left) h = one_too_many k ts left (h (λ x. absurd cc))
stops_at k ts stop.Memory h = tt

pub stops_expr : (k : ℕ) (ts left : List TokenKind) (result : Result Expr Stop) → Reads result left (expr_at k ts) → IfErr result (StopsExpr k ts)
stops_expr k ts left (Ok e) h = tt
stops_expr k ts left (Err e) h = stops_at k ts e h
