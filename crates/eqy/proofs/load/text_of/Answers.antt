use Rattle.std.proofs.Common.{List, [], ◌∷◌, ℕ, zero, suc, ◌<◌, All, slice_index_or, sym, subst, arith}
use Rattle.std.proofs.lemmas.List.Elements.{All-head, All-tail}
use Rattle.std.proofs.lemmas.Str.{IsUtf8-from_ascii}
use Rattle.std.specs.Str.{IsUtf8}
use Rattle.eq_names.specs.Name.{IsNameByte}
use Rattle.eqy.proofs.load.text_of.Goals as goal

are_ascii : (xs : List ℕ) → All IsNameByte xs → (k : ℕ) → slice_index_or xs k 0 < 128
are_ascii [] all k = omega arith
are_ascii (x ∷ xs) all zero = (let b = All-head IsNameByte x xs all in omega arith)
are_ascii (x ∷ xs) all (suc k) = are_ascii xs (All-tail IsNameByte x xs all) k

pub unreachable-requires : goal.unreachable-requires
unreachable-requires c =
    let P : List ℕ → Type 0 = λ t. IsUtf8 t in
    c.in-Err.ensures.cases.0 (subst P (sym c.bytes.ensures.bytes) (IsUtf8-from_ascii c.args.name.now (are_ascii c.args.name.now c.bytes.ensures.name.bytes)))
