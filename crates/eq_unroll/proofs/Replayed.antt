-- The run that satisfying values show replays their nodes' values.
use Rattle.std.proofs.Common.{◌≡◌, ℕ, ◌+◌, ◌-◌, ◌*◌, ◌≤◌, Bool, List, length, arith, sym, ap, subst, ◌∙◌}
use Rattle.eq_proof.specs.Satisfying.{SatisfiesAll}
use Rattle.eq_model.specs.Frames.{values}
use Rattle.eq_model.specs.System.{Values, Solves, nothing}
use Rattle.eq_model.specs.Part.{IsPart}
use Rattle.eq_bits.specs.declared.part.Part.{Part}
use Rattle.eq_bits.specs.declared.run.Run.{Run}
use Rattle.eq_bits.specs.Node.{system_of}
use Rattle.eq_bits.specs.Replay.{HasOneReplay, IsReplay, meaning}
use Rattle.eq_unroll.specs.declared.query.Query.{Query}
use Rattle.eq_unroll.specs.Query.{Shows, frame_count}
use Rattle.eq_unroll.specs.Unrolling.{unrolled}
use Rattle.eq_unroll.specs.Values.{value_of}
use Rattle.eq_unroll.specs.inner.Witnessing.{HasFrames, HasRegisters}
use Rattle.eq_unroll.proofs.Assigning.{shows_same, values_show}
use Rattle.eq_unroll.proofs.Satisfying.{frames_of}

at_variable : (bits : List Bool) (c n m : ℕ) → frames_of (value_of bits) n c m ≡ values bits (c * n + m)
at_variable bits c n m = (let e : c * n + m + 1 - 1 ≡ c * n + m = omega arith in ap (values bits) e)

at_first : (bits : List Bool) (n m : ℕ) → frames_of (value_of bits) n 0 m ≡ values bits m
at_first bits n m = (let e : 0 * n + m + 1 - 1 ≡ m = omega arith in ap (values bits) e)

pub shows : (part : Part) (run : Run) (q : Query) (k : ℕ) (bits : List Bool) → IsPart (meaning part) →
    HasOneReplay part run → 1 ≤ k →
    SatisfiesAll (value_of bits) (unrolled part q k) → HasRegisters part.nodes (values bits)
    (length part.nodes) run.regs →
    HasFrames part bits (frame_count q k) run.inputs → (x : ℕ → Values) → IsReplay part run x → Shows part q k x
shows part run q k bits is one from_one satisfied regs inputs x replay =
    let n = length part.nodes in
    let y = frames_of (value_of bits) n in
    let shown = values_show part q k (omega arith) (value_of bits) satisfied in
    let P : ℕ → Type 0 = λ cycles. Solves (system_of part.nodes) nothing cycles y in
    let its : IsReplay part run y = record {
      follows = record {
        inputs = λ c m lc lm input. at_variable bits c n m
            ∙ sym (inputs.each c (let e = inputs.cycles in omega arith) m lm input);
        solves = subst P (sym inputs.cycles) shown.solved;
      };
      begins = λ some m lm register. at_first bits n m ∙ sym (regs.each m lm register).1;
    } in
    shows_same part is q k (omega arith) y x (λ c m lc lm.
    one.only y x its replay c m (let e = inputs.cycles in omega arith) lm) shown.shows
