-- Whether a word is reserved.
use Rattle.std.specs.Prelude.{ℕ, Bool, List, bytes_eq}
use Rattle.std.specs.List.{list_any}
use Rattle.eq_first.specs.Design.{reserved}

unfoldable pub is_reserved : List ℕ → Bool
is_reserved w = list_any (λ r. bytes_eq r w) reserved
