-- What slots say of words they say of more words as well.
use Rattle.std.proofs.Common.{ℕ, List}
use Rattle.eq_net.specs.declared.types.NetInfo.{NetInfo}
use Rattle.eq_net.specs.Tree.{Tree}
use Rattle.eq_verilog.specs.Registers.{Process, itself, run}
use Rattle.eq_flatten.specs.declared.driving.Slot.{Slot}
use Rattle.eq_flatten.specs.declared.driving.Slot.TheVariants.{Free, Once, Twice}
use Rattle.eq_flatten.specs.Driving.{slot_at}
use Rattle.eq_flatten.specs.Rendering.{KeepsFront}
use Rattle.eq_sequential.specs.Setting.{AreFollowed, SlotFollows}
use Rattle.eq_registers.proofs.Stood.{stands_later}
use Rattle.eq_flatten.proofs.Equated.{slots_later}
use Rattle.eq_verilog.specs.Designs.{Flat}
use Rattle.eq_drivers.specs.declared.slots.Slots.{Slots}
use Rattle.eq_drivers.specs.Telling.{Tell}

module _ (nets : List NetInfo) (old new : List Tree) (grown : KeepsFront old new) where
  follows_later : (ps : List Process) (b : ℕ) (s : Slot) → SlotFollows nets old ps b s → SlotFollows nets new ps b s
  follows_later ps b Free says = says
  follows_later ps b (Once w) says = (
    says.0,
    (
      says.1.0,
      says.1.1,
      record {
        sets_it = says.1.2.sets_it;
        stands = stands_later nets old new w (run says.1.0.scope says.1.0.body itself b) grown says.1.2.stands;
      },
    ),
  )
  follows_later ps b Twice says = says

  pub followed_later : (ps : List Process) (slots : List Slot) → AreFollowed nets old ps slots → AreFollowed nets new ps slots
  followed_later ps slots so_far b inside = follows_later ps b (slot_at slots b) (so_far b inside)

  -- the same of the tables of a design
  pub tell_later : (f : Flat) (s : Slots) → Tell nets old f s → Tell nets new f s
  tell_later f s tell = record {
    nets_are = tell.nets_are;
    driven_size = tell.driven_size;
    followed_size = tell.followed_size;
    begun_size = tell.begun_size;
    driven = slots_later nets old new grown f.equations s.driven.items tell.driven;
    followed = followed_later f.processes s.followed.items tell.followed;
    begun = tell.begun;
  }
