-- Runs as lists of frames.
use Rattle.std.proofs.Common.{◌≡◌, ℕ, zero, suc, ◌<◌, Bool, false, List, [], ◌∷◌, length, get_or, refl, arith, sym, ap, ◌∙◌}
use Rattle.eq_model.specs.System.{Values, IsSystem, Agree}
use Rattle.eq_model.specs.Run.{Design, Given, HasOneRun}
use Rattle.eq_model.proofs.Moves.{run_move}
use Rattle.eq_model.specs.Frames.{frames, AreFrames, HasOneList}

-- the list of the first n values of a function
pub tabulate : {X : Type 0} → ℕ → (ℕ → X) → List X
tabulate zero f = []
tabulate (suc n) f = f 0 ∷ tabulate n (λ k. f (suc k))

pub length-tabulate : {X : Type 0} → (n : ℕ) (f : ℕ → X) → length (tabulate n f) ≡ n
unfolding tabulate
length-tabulate zero f = refl
length-tabulate (suc n) f = ap suc (length-tabulate n (λ k. f (suc k)))

pub get_or-tabulate : {X : Type 0} → (n : ℕ) (f : ℕ → X) (k : ℕ) (d : X) → k < n → get_or (tabulate n f) k d ≡ f k
unfolding tabulate
get_or-tabulate zero f k d lt = absurd (omega arith)
get_or-tabulate (suc n) f zero d lt = refl
get_or-tabulate (suc n) f (suc k) d lt = get_or-tabulate n (λ j. f (suc j)) k d (omega arith)

-- lists of one length with the same elements are one list
pub same_list : {X : Type 0} → (xs ys : List X) (d : X) → length xs ≡ length ys → ((k : ℕ) → k < length xs → get_or xs k d ≡ get_or ys k d) → xs ≡ ys
same_list [] [] d e h = refl
same_list [] (y ∷ ys) d e h = absurd (omega arith)
same_list (x ∷ xs) [] d e h = absurd (omega arith)
same_list (x ∷ xs) (y ∷ ys) d e h =
    let head : x ≡ y = h 0 (omega arith) in
    let tail : xs ≡ ys = same_list xs ys d (omega arith) (λ k lt. h (suc k) (omega arith)) in
    cc

module _ (d : Design) (sound : IsSystem d.system) (given : Given) (n : ℕ) where
  pub as_list : (ℕ → Values) → List (List Bool)
  as_list v = tabulate n (λ c. tabulate d.bits (v c))

  pub as_list-at : (v : ℕ → Values) (c b : ℕ) → c < n → b < d.bits → frames (as_list v) c b ≡ v c b
  unfolding as_list
  as_list-at v c b lc lb =
      ap (λ xs. get_or xs b false) (get_or-tabulate n (λ k. tabulate d.bits (v k)) c [] lc) ∙ get_or-tabulate d.bits (v c) b false lb

  pub as_list-frames : (v : ℕ → Values) → AreFrames d.bits n (as_list v)
  unfolding as_list
  as_list-frames v = record {
    cycles = length-tabulate n (λ c. tabulate d.bits (v c));
    each = λ c lc. ap length (get_or-tabulate n (λ k. tabulate d.bits (v k)) c [] lc) ∙ length-tabulate d.bits (v c);
  }

  -- lists of frames that agree are one list
  pub one_list_of : (vs ws : List (List Bool)) → AreFrames d.bits n vs → AreFrames d.bits n ws → Agree d.system n (frames vs) (frames ws) → vs ≡ ws
  one_list_of vs ws hv hw agree =
      let cv = hv.cycles in
      let cw = hw.cycles in
      same_list vs ws [] (omega arith) (λ c lc.
      let lt : c < n = omega arith in
      let ev = hv.each c lt in
      let ew = hw.each c lt in
      same_list (get_or vs c []) (get_or ws c []) false (omega arith) (λ b lb. agree c b lt (omega arith)))

  pub one_list : HasOneRun d given n → HasOneList d given n
  one_list h = record {
    some = (as_list h.some.0, as_list-frames h.some.0, run_move d sound given n h.some.0 (frames (as_list h.some.0)) (λ c b lc lb. sym (as_list-at h.some.0 c b lc lb)) h.some.1);
    only = λ vs ws fv fw hv hw. one_list_of vs ws fv fw (h.only (frames vs) (frames ws) hv hw);
  }
