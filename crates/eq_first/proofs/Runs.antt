-- Reading an expression one token further.
use Rattle.std.proofs.Common.{◌≡◌, ℕ, suc, ◌+◌, ◌<◌, ◌≤◌, List, length, get_or, drop, Option, Some, None, refl, sym, ap, ◌∙◌, add-one, drop-cons}
use Rattle.std.specs.Prelude.{option_map}
use Rattle.std.proofs.Math.ListN.{drop_of_length-le}
use Rattle.eq_first.specs.declared.module.Port.{Port}
use Rattle.eq_first.specs.declared.module.Expr.{Expr}
use Rattle.eq_first.specs.declared.token.Lexeme.{Lexeme}
use Rattle.eq_first.specs.declared.expression.State.{State as Code}
use Rattle.eq_first.specs.Lines.{◌>>=◌}
use Rattle.eq_first.specs.Lexing.{token_of, tokens_in}
use Rattle.eq_first.specs.Machine.{State, step, finish, run}
use Rattle.eq_first.specs.Machines.{state_of}

run_more : (ports : List Port) (s : State) (lexemes : List Lexeme) (i : ℕ) (d : Lexeme) (total : Option Expr) → i < length lexemes
    → run ports s (tokens_in (drop i lexemes)) ≡ total → (step ports s (token_of (get_or lexemes i d)) >>= λ next. run ports next (tokens_in (drop (i + 1) lexemes))) ≡ total
unfolding run
run_more ports s lexemes i d total lt so_far =
    let opened : run ports s (tokens_in (drop i lexemes)) ≡ (step ports s (token_of (get_or lexemes i d)) >>= λ next. run ports next (tokens_in (drop (suc i) lexemes))) = rw (drop-cons lexemes i d lt) refl in
    rw (add-one i) (sym opened ∙ so_far)

pub run_on : (ports : List Port) (s : State) (lexemes : List Lexeme) (i : ℕ) (d : Lexeme) (total : Option Expr) (o : Option Code) (next : Code) → i < length lexemes
    → run ports s (tokens_in (drop i lexemes)) ≡ total → option_map state_of o ≡ step ports s (token_of (get_or lexemes i d)) → o ≡ Some next
    → run ports (state_of next) (tokens_in (drop (i + 1) lexemes)) ≡ total
run_on ports s lexemes i d total o next lt so_far stepped is =
    ap (λ (r : Option State). r >>= λ n. run ports n (tokens_in (drop (i + 1) lexemes))) (ap (option_map state_of) (sym is) ∙ stepped) ∙ run_more ports s lexemes i d total lt so_far

pub run_off : (ports : List Port) (s : State) (lexemes : List Lexeme) (i : ℕ) (d : Lexeme) (total : Option Expr) (o : Option Code) → i < length lexemes
    → run ports s (tokens_in (drop i lexemes)) ≡ total → option_map state_of o ≡ step ports s (token_of (get_or lexemes i d)) → o ≡ None → None ≡ total
run_off ports s lexemes i d total o lt so_far stepped is =
    ap (λ (r : Option State). r >>= λ n. run ports n (tokens_in (drop (i + 1) lexemes))) (ap (option_map state_of) (sym is) ∙ stepped) ∙ run_more ports s lexemes i d total lt so_far

pub run_end : (ports : List Port) (s : State) (lexemes : List Lexeme) (i : ℕ) (total : Option Expr) → length lexemes ≤ i
    → run ports s (tokens_in (drop i lexemes)) ≡ total → finish s ≡ total
unfolding run
run_end ports s lexemes i total le so_far =
    let opened : run ports s (tokens_in (drop i lexemes)) ≡ finish s = rw (drop_of_length-le lexemes {i = i} le) refl in
    sym opened ∙ so_far
