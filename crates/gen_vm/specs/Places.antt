-- Where a run stands, as the definition of what code does sees it.
use Rattle.std.specs.Prelude.{reverse}
use Rattle.gen_code.specs.Machine.{Asker, Config, Doing}
use Rattle.gen_code.specs.Machine as machine
use Rattle.ext_mean.specs.Views.{part}
use Rattle.ext_mean.specs.Work as work
use Rattle.gen_vm.specs.declared.doing.Asker as declared_asker
use Rattle.gen_vm.specs.declared.doing.Asker.TheVariants as asker
use Rattle.gen_vm.specs.declared.doing.Doing as declared_doing
use Rattle.gen_vm.specs.declared.doing.Doing.TheVariants as doing
use Rattle.gen_vm.specs.declared.here.Here.{Here}
use Rattle.gen_vm.specs.declared.world.World.{World}

-- who reads
abbrev pub asker_of : declared_asker.Asker → Asker
asker_of (asker.ForGet target) = machine.ForGet target
asker_of asker.ForMulti = machine.ForMulti

abbrev pub doing_of : declared_doing.Doing → Doing
doing_of doing.Working = machine.Working
doing_of (doing.Reading table key who) = machine.Reading (record { table = table.0; key = key }) (asker_of who)

-- where a run stands; the last caller comes first
abbrev pub here_of : Here → Config
here_of here = record {
  function = here.function;
  pc = here.pc;
  slots = here.slots;
  stack = here.stack;
  frames = reverse here.frames.items;
  doing = doing_of here.doing;
  used = here.used;
  reply = here.reply.items;
  writes = here.writes.items;
}

-- what does not change: the arguments, the limit, and the view that knows the records fed
abbrev pub world_of : World → work.World
world_of world = record {
  args = world.args.now;
  budget = world.limit;
  view = part world.fed.now world.rights.now;
}
