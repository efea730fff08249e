-- What the files hold has one outcome.
use Rattle.std.proofs.Common.{◌≡◌, ℕ, ◌≤◌, List, [], ◌∷◌, length, Option, None, Some, inl, inr, refl, arith, sym, ap, subst, ◌∙◌}
use Rattle.std.specs.FinMap.{get}
use Rattle.eq_io.specs.Files.{Files}
use Rattle.eq_first.specs.declared.job.Job.{Job}
use Rattle.eq_first.specs.declared.job.Side.{Side}
use Rattle.eq_first.specs.declared.module.Module.{Module}
use Rattle.eq_first.specs.declared.module.Port.{Port}
use Rattle.eq_first.specs.Configuration.{IsJob}
use Rattle.eq_first.specs.Design.{IsModule}
use Rattle.eqy.specs.declared.refusal.Refusal.{Refusal}
use Rattle.eqy.specs.declared.report.Verdict.{Verdict}
use Rattle.eqy.specs.declared.report.Verdict.TheVariants.{Proved, Fail}
use Rattle.eqy.specs.Inputs.{inputs_of}
use Rattle.eqy.specs.Command.{IsCommand, HasText, HasJob, HasModule, FileRefused, IsSomeJob, IsSomeModule, PairRefused, GateRefused, GoldRefused, JobRefused, IsRefused, IsTask, most_inputs}
use Rattle.eqy.specs.Verdicts.{IsVerdict}

one_text : (o : Option (List ℕ)) (a b : List ℕ) → o ≡ Some a → o ≡ Some b → a ≡ b
one_text o a b p q = cc

none_some : (o : Option (List ℕ)) (a : List ℕ) → o ≡ None → o ≡ Some a → ⊥
none_some o a p q = cc

-- a file that is refused has no text in the form
not_refused : (files : Files) (name : List ℕ) (HasForm : List ℕ → Type 0) (r : Refusal) (text : List ℕ) → HasText files name text → HasForm text → FileRefused files name HasForm r → ⊥
not_refused files name HasForm r text has form refused = elim refused [
  | inl absent ↦ none_some (get files name) text absent.0 has.0
  | inr held ↦ (
      let same = one_text (get files name) held.0 text held.1 has.0 in
      elim held.2 [
        | inl long ↦ (let size = ap length same in let short = has.1 in absurd (omega arith))
        | inr none ↦ none (subst HasForm (sym same) form)
      ])
]

one_file_refusal : (files : Files) (name : List ℕ) (HasForm : List ℕ → Type 0) (r s : Refusal) → FileRefused files name HasForm r → FileRefused files name HasForm s → r ≡ s
one_file_refusal files name HasForm r s a b = elim a [
  | inl absent ↦ (elim b [
    | inl too ↦ absent.1 ∙ sym too.1
    | inr held ↦ absurd (none_some (get files name) held.0 absent.0 held.1)
  ])
  | inr held ↦ (elim b [
    | inl absent ↦ absurd (none_some (get files name) held.0 absent.0 held.1)
    | inr too ↦ held.3 ∙ sym too.3
  ])
]

one_pair_refusal : (gold gate : List Port) (r s : Refusal) → PairRefused gold gate r → PairRefused gold gate s → r ≡ s
one_pair_refusal gold gate r s a b = elim a [
  | inl differ ↦ (elim b [ inl too ↦ differ.1 ∙ sym too.1 | inr wide ↦ absurd (differ.0 wide.0) ])
  | inr wide ↦ (elim b [ inl differ ↦ absurd (differ.0 wide.0) | inr too ↦ wide.2 ∙ sym too.2 ])
]

pair_not_refused : (gold gate : List Port) (r : Refusal) → gold ≡ gate → inputs_of gold ≤ most_inputs → PairRefused gold gate r → ⊥
pair_not_refused gold gate r same narrow refused = elim refused [
  | inl differ ↦ differ.0 same
  | inr wide ↦ (let more = wide.1 in absurd (omega arith))
]

one_file : (words : List (List ℕ)) (a b : List ℕ) → IsCommand words a → IsCommand words b → a ≡ b
one_file words a b p q = (let e : a ∷ [] ≡ b ∷ [] = sym p.0 ∙ q.0 in cc)

module _ (one_job : (text : List ℕ) (a b : Job) → IsJob text a → IsJob text b → a ≡ b)
    (one_module : (text top : List ℕ) (a b : Module) → IsModule text top a → IsModule text top b → a ≡ b) where
  same_job : (files : Files) (name : List ℕ) (a b : Job) → HasJob files name a → HasJob files name b → a ≡ b
  same_job files name a b p q =
      let P : List ℕ → Type 0 = λ t. IsJob t a in
      one_job q.0 a b (subst P (one_text (get files name) p.0 q.0 p.1.0 q.1.0) p.2) q.2

  same_module : (files : Files) (side : Side) (a b : Module) → HasModule files side a → HasModule files side b → a ≡ b
  same_module files side a b p q =
      let P : List ℕ → Type 0 = λ t. IsModule t side.top a in
      one_module q.0 side.top a b (subst P (one_text (get files side.file) p.0 q.0 p.1.0 q.1.0) p.2) q.2

  job_held : (files : Files) (name : List ℕ) (job : Job) (r : Refusal) → HasJob files name job → FileRefused files name IsSomeJob r → ⊥
  job_held files name job r has = not_refused files name IsSomeJob r has.0 has.1 (job, has.2)

  module_held : (files : Files) (side : Side) (m : Module) (r : Refusal) → HasModule files side m → FileRefused files side.file (IsSomeModule side.top) r → ⊥
  module_held files side m r has = not_refused files side.file (IsSomeModule side.top) r has.0 has.1 (m, has.2)

  one_gate_refusal : (files : Files) (job : Job) (gold : Module) (r s : Refusal) → GateRefused files job gold r → GateRefused files job gold s → r ≡ s
  one_gate_refusal files job gold r s a b = elim a [
    | inl file ↦ (elim b [
      | inl too ↦ one_file_refusal files job.gate.file (IsSomeModule job.gate.top) r s file too
      | inr pair ↦ absurd (module_held files job.gate pair.0 r pair.1 file)
    ])
    | inr pair ↦ (elim b [
      | inl file ↦ absurd (module_held files job.gate pair.0 s pair.1 file)
      | inr too ↦ (
          let P : Module → Type 0 = λ gate. PairRefused gold.ports gate.ports r in
          one_pair_refusal gold.ports too.0.ports r s (subst P (same_module files job.gate pair.0 too.0 pair.1 too.1) pair.2) too.2)
    ])
  ]

  one_gold_refusal : (files : Files) (job : Job) (r s : Refusal) → GoldRefused files job r → GoldRefused files job s → r ≡ s
  one_gold_refusal files job r s a b = elim a [
    | inl file ↦ (elim b [
      | inl too ↦ one_file_refusal files job.gold.file (IsSomeModule job.gold.top) r s file too
      | inr later ↦ absurd (module_held files job.gold later.0 r later.1 file)
    ])
    | inr later ↦ (elim b [
      | inl file ↦ absurd (module_held files job.gold later.0 s later.1 file)
      | inr too ↦ (
          let P : Module → Type 0 = λ gold. GateRefused files job gold r in
          one_gate_refusal files job too.0 r s (subst P (same_module files job.gold later.0 too.0 later.1 too.1) later.2) too.2)
    ])
  ]

  one_job_refusal : (files : Files) (name : List ℕ) (r s : Refusal) → JobRefused files name r → JobRefused files name s → r ≡ s
  one_job_refusal files name r s a b = elim a [
    | inl file ↦ (elim b [
      | inl too ↦ one_file_refusal files name IsSomeJob r s file too
      | inr later ↦ absurd (job_held files name later.0 r later.1 file)
    ])
    | inr later ↦ (elim b [
      | inl file ↦ absurd (job_held files name later.0 s later.1 file)
      | inr too ↦ (
          let P : Job → Type 0 = λ job. GoldRefused files job r in
          one_gold_refusal files too.0 r s (subst P (same_job files name later.0 too.0 later.1 too.1) later.2) too.2)
    ])
  ]

  pub one_refusal : (words : List (List ℕ)) (files : Files) (r s : Refusal) → IsRefused words files r → IsRefused words files s → r ≡ s
  one_refusal words files r s a b = elim a [
    | inl usage ↦ (elim b [ inl too ↦ usage.1 ∙ sym too.1 | inr later ↦ absurd (usage.0 later.0 later.1) ])
    | inr later ↦ (elim b [
      | inl usage ↦ absurd (usage.0 later.0 later.1)
      | inr too ↦ (
          let P : List ℕ → Type 0 = λ name. JobRefused files name r in
          one_job_refusal files too.0 r s (subst P (one_file words later.0 too.0 later.1 too.1) later.2) too.2)
    ])
  ]

  gate_task : (files : Files) (job : Job) (gold gate : Module) (r : Refusal) → HasModule files job.gate gate → gold.ports ≡ gate.ports → inputs_of gold.ports ≤ most_inputs → GateRefused files job gold r → ⊥
  gate_task files job gold gate r has same narrow refused = elim refused [
    | inl file ↦ module_held files job.gate gate r has file
    | inr pair ↦ (
        let P : Module → Type 0 = λ g. PairRefused gold.ports g.ports r in
        pair_not_refused gold.ports gate.ports r same narrow (subst P (same_module files job.gate pair.0 gate pair.1 has) pair.2))
  ]

  gold_task : (files : Files) (job : Job) (gold gate : Module) (r : Refusal) → HasModule files job.gold gold → HasModule files job.gate gate → gold.ports ≡ gate.ports → inputs_of gold.ports ≤ most_inputs →
      GoldRefused files job r → ⊥
  gold_task files job gold gate r has_gold has_gate same narrow refused = elim refused [
    | inl file ↦ module_held files job.gold gold r has_gold file
    | inr later ↦ (
        let P : Module → Type 0 = λ g. GateRefused files job g r in
        gate_task files job gold gate r has_gate same narrow (subst P (same_module files job.gold later.0 gold later.1 has_gold) later.2))
  ]

  -- what is refused is no task
  pub no_task : (words : List (List ℕ)) (files : Files) (r : Refusal) (job : Job) (gold gate : Module) → IsRefused words files r → IsTask words files job gold gate → ⊥
  no_task words files r job gold gate refused task = elim refused [
    | inl usage ↦ usage.0 task.file task.command
    | inr later ↦ (
        let P : List ℕ → Type 0 = λ name. JobRefused files name r in
        let at = subst P (one_file words later.0 task.file later.1 task.command) later.2 in
        elim at [
          | inl file ↦ job_held files task.file job r task.asked file
          | inr more ↦ (
              let Q : Job → Type 0 = λ j. GoldRefused files j r in
              gold_task files job gold gate r task.has_gold task.has_gate task.ports task.narrow (subst Q (same_job files task.file more.0 job more.1 task.asked) more.2))
        ])
  ]

  -- the files hold one task
  pub one_task : (words : List (List ℕ)) (files : Files) (job job' : Job) (gold gold' gate gate' : Module) → IsTask words files job gold gate → IsTask words files job' gold' gate' →
      (job ≡ job') × (gold ≡ gold') × (gate ≡ gate')
  one_task words files job job' gold gold' gate gate' a b =
      let P : List ℕ → Type 0 = λ name. HasJob files name job in
      let jobs = same_job files b.file job job' (subst P (one_file words a.file b.file a.command b.command) a.asked) b.asked in
      let Q : Job → Type 0 = λ j. HasModule files j.gold gold in
      let R : Job → Type 0 = λ j. HasModule files j.gate gate in
      (jobs, same_module files job'.gold gold gold' (subst Q jobs a.has_gold) b.has_gold, same_module files job'.gate gate gate' (subst R jobs a.has_gate) b.has_gate)

pub one_verdict : (a b : Verdict) (gold gate : Module) → IsVerdict a gold gate → IsVerdict b gold gate → a ≡ b
one_verdict Proved Proved gold gate p q = refl
one_verdict Proved Fail gold gate p q = absurd (q.1 (p q.0))
one_verdict Fail Proved gold gate p q = absurd (p.1 (q p.0))
one_verdict Fail Fail gold gate p q = refl
