use Rattle.std.proofs.Common.{ℕ, Bool, List, refl, ap₂, ◌∙◌}
use Rattle.eq_bits.specs.declared.run.Run.{Run}
use Rattle.eq_wit.specs.Texts.{regs_line}
use Rattle.eq_wit.specs.inner.Reading.{in_frames}
use Rattle.eq_wit.proofs.answering.regs.Goals as goal

pub returns-in_ok-in_frames-in-Ok-clause-judges : goal.returns-in_ok-in_frames-in-Ok-clause-judges
returns-in_ok-in_frames-in-Ok-clause-judges c = (
  regs_line c.in-Ok.regs,
  (
    c.in-Ok.regs,
    c.in-Ok.ensures.fits ∙ c.registers_of-count.ensures.value,
    refl,
    c.in_ok-in_frames-in-Ok.ensures ∙ ap₂ (λ (xs : List (List Bool)) (n : ℕ).
        let run : Run = record { regs = c.in-Ok.regs; inputs = xs } in
        in_frames c.args.tally c.args.attempt c.args.query c.args.k run n) c.new.ensures c.cycles.ensures,
  ),
  c.in-Ok.ensures.words,
)
