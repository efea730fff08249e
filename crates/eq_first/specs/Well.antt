-- What holds of each module of the first form, for whoever builds something from it.
use Rattle.std.specs.Prelude.{◌≡◌, ◌≢◌, ℕ, ◌<◌, ◌≤◌, ◌^◌, List, length, slice_get, All, AllPairs, IsSomeAnd}
use Rattle.eq_first.specs.declared.module.Direction.{Direction}
use Rattle.eq_first.specs.declared.module.Direction.TheVariants.{Input, Output}
use Rattle.eq_first.specs.declared.module.Port.{Port}
use Rattle.eq_first.specs.declared.module.Module.{Module}
use Rattle.eq_first.specs.Value.{reads_of, operators_of}

-- the port n is there, and goes this way
abbrev pub Goes : List Port → Direction → ℕ → Type 0
Goes ports d n = IsSomeAnd (slice_get ports n) (λ p. p.direction ≡ d)

-- one output, and an expression over inputs
pub record IsWellFormed (m : Module) : Type 0 where
  pub few : length m.ports < 2 ^ 32
  pub distinct : AllPairs (λ p q. p.name ≢ q.name) m.ports
  pub output : Goes m.ports Output m.output
  pub inputs : (n : ℕ) → n < length m.ports → n ≢ m.output → Goes m.ports Input n
  pub reads : All (Goes m.ports Input) (reads_of m.expr)
  pub small : operators_of m.expr ≤ 1000
