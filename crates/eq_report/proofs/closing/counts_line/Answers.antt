use Rattle.std.proofs.Common.{◌≡◌, ◌++◌, append_assoc}
use Rattle.std.specs.Prelude.{codes, decimal}
use Rattle.eq_report.proofs.closing.counts_line.Goals as goal

-- the pieces as they are written, one behind the other
pub returns : goal.returns
returns c =
    let n = c.args.counts in
    let b : c.in_ok-line.line.bytes.items ≡ codes "proved " ++ (decimal n.proved ++ (codes ", failed "
    ++ (decimal n.failed ++ (codes ", unknown " ++ (decimal n.unknown ++ (codes ", skipped " ++ (decimal n.skipped
    ++ (codes ", conflicts " ++ (decimal n.conflicts ++ codes "\n"))))))))) = c.in_ok-line.ensures.ok in
    rw c.into_bytes.ensures.value (simp append_assoc b)
