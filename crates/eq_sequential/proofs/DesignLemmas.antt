-- What slots say of always items and of initial values they say of those that mean the same.
use Rattle.std.proofs.Common.{◌≡◌, ℕ, ◌<◌, List, [], Option, Some, refl, sym, ap, subst, ◌∙◌, replicate}
use Rattle.std.specs.Prelude.{is_some}
use Rattle.eq_vlex.specs.declared.token.Constant.{Constant}
use Rattle.eq_net.specs.declared.types.NetInfo.{NetInfo}
use Rattle.eq_net.specs.Tree.{Tree}
use Rattle.eq_verilog.specs.Registers.{Initial, Process}
use Rattle.eq_flatten.specs.declared.driving.Slot.{Slot}
use Rattle.eq_flatten.specs.declared.driving.Slot.TheVariants.{Free, Once, Twice}
use Rattle.eq_flatten.specs.Beginning.{begins_bit, AreBegun, SlotBegins}
use Rattle.eq_flatten.specs.Driving.{slot_at}
use Rattle.eq_registers.specs.Standing.{StandsFor}
use Rattle.eq_sequential.specs.Setting.{sets_bit, AreFollowed, SlotFollows}
use Rattle.eq_sequential.proofs.AlikeItems.{BeginsAlike, RunsAlike}
use Rattle.eq_sequential.proofs.PutLemmas.{free_at}
use Rattle.eq_sequential.proofs.Matched.{matched_count, matched_one, Matched}

-- ---- always items

module _ (nets : List NetInfo) (words : List Tree) (ps qs : List Process) (h : Matched RunsAlike ps qs) where
  slot_follows : (b : ℕ) (s : Slot) → SlotFollows nets words ps b s → SlotFollows nets words qs b s
  slot_follows b Free says =
      sym (matched_count RunsAlike (sets_bit b) (sets_bit b) (λ p q r. r.sets_same b) ps qs h) ∙ says
  slot_follows b (Once w) says =
      let other = matched_one RunsAlike ps qs h says.1.0 says.1.1 in (
        sym (matched_count RunsAlike (sets_bit b) (sets_bit b) (λ p q r. r.sets_same b) ps qs h) ∙ says.0,
        (
          other.0,
          other.1.0,
          record {
            sets_it = sym (other.1.1.sets_same b) ∙ says.1.2.sets_it;
            stands = subst (λ f. StandsFor nets words w f) (other.1.1.run_same b) says.1.2.stands;
          },
        ),
      )
  slot_follows b Twice says =
      subst (λ (n : ℕ). 1 < n) (matched_count RunsAlike (sets_bit b) (sets_bit b) (λ p q r. r.sets_same b) ps qs h) says

  pub design_followed : (slots : List Slot) → AreFollowed nets words ps slots → AreFollowed nets words qs slots
  design_followed slots are b less = slot_follows b (slot_at slots b) (are b less)

-- ---- initial values

module _ (constants : List Constant) (is js : List Initial) (h : Matched BeginsAlike is js) where
  begins_same : (b : ℕ) (i j : Initial) → BeginsAlike i j → begins_bit b i ≡ begins_bit b j
  begins_same b i j r = ap (λ (o : Option ℕ). is_some o) (r.place_same b)

  slot_begins : (b : ℕ) (s : Slot) → SlotBegins constants is b s → SlotBegins constants js b s
  slot_begins b Free says =
      sym (matched_count BeginsAlike (begins_bit b) (begins_bit b) (begins_same b) is js h) ∙ says
  slot_begins b (Once w) says =
      let other = matched_one BeginsAlike is js h says.1.0 says.1.1 in (
        sym (matched_count BeginsAlike (begins_bit b) (begins_bit b) (begins_same b) is js h) ∙ says.0,
        (
          other.0,
          other.1.0,
          record {
            place = sym (other.1.1.place_same b) ∙ says.1.2.place;
            value = says.1.2.value ∙ ap (λ (c : Constant). Some c) other.1.1.value_same;
          },
        ),
      )
  slot_begins b Twice says =
      subst (λ (n : ℕ). 1 < n) (matched_count BeginsAlike (begins_bit b) (begins_bit b) (begins_same b) is js h) says

  pub design_begun : (slots : List Slot) → AreBegun constants is slots → AreBegun constants js slots
  design_begun slots are b less = slot_begins b (slot_at slots b) (are b less)

-- no initial value
pub none_begun : (constants : List Constant) (n : ℕ) → AreBegun constants [] (replicate n Free)
none_begun constants n b less = subst (λ (s : Slot). SlotBegins constants [] b s) (sym (free_at n b)) refl
