-- The evidence of two sides that differ: `a & b` beside `a | b`.
use Rattle.std.specs.Prelude.{◌≡◌, false, true, List, [], ◌∷◌, codes}
use Rattle.eq_bits.specs.declared.node.Node.{Node}
use Rattle.eq_bits.specs.declared.node.Node.TheVariants.{Input, Not, And, Buf}
use Rattle.eq_bits.specs.declared.part.Output.{Output}
use Rattle.eq_bits.specs.declared.part.Part.{Part}
use Rattle.eq_unroll.specs.declared.query.Query.TheVariants.{Base}
use Rattle.eq_induct.specs.declared.types.Answer.TheVariants.{Sat}
use Rattle.eq_induct.specs.declared.types.Decided.{Decided}
use Rattle.eq_induct.specs.declared.types.End.TheVariants as end
use Rattle.eq_induct.specs.declared.types.PartVerdict.TheVariants as verdict
use Rattle.eq_proof.specs.Inference.{Inference}
use Rattle.eq_wit.specs.declared.types.Head.{Head}

abbrev pub nodes_of_both : List Node
nodes_of_both = Input 0 ∷ Input 1 ∷ And 0 1 ∷ Buf 2 ∷ Not 0 ∷ Not 1 ∷ And 4 5 ∷ Not 6 ∷ Buf 7 ∷ []

abbrev pub output_of_both : List Output
output_of_both = record { name = codes "y"; gold = 3; gate = 8 } ∷ []

-- the part has these inputs, nodes and outputs
pub record IsAndBesideOr (part : Part) : Type 0 where
  pub name : part.name ≡ codes "y"
  pub inputs : part.inputs ≡ codes "a" ∷ codes "b" ∷ []
  pub nodes : part.nodes ≡ nodes_of_both
  pub outputs : part.outputs ≡ output_of_both

abbrev pub one_head : List Head
one_head = record { name = codes "s"; depth = 3; conflicts = 20000 } ∷ []

-- Base holds at one cycle, in which a is 0 and b is 1
abbrev pub one_failure : Decided
one_failure = record {
  tries = record {
    strategy = 0;
    attempt = record {
      asked = record {
        query = Base;
        k = 1;
        answer = Sat (record { regs = []; inputs = (false ∷ true ∷ []) ∷ [] });
      } ∷ [];
      end = end.Fail 1;
    };
  } ∷ [];
  verdict = verdict.Fail 1 0;
  conflicts = 0;
}

-- the clause of -1 and 3, from the clauses 4 and 5
abbrev pub one_step : Inference
one_step = record {
  clause = (record { var = 1; positive = false }) ∷ (record { var = 3; positive = true }) ∷ [];
  ants = 4 ∷ 5 ∷ [];
}
