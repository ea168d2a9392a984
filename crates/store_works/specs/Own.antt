-- A work of a store whose hosts may be open.
use Rattle.store_works.specs.declared.own.OpenWork.{OpenWork}
use Rattle.store_works.specs.declared.own.OpenWork.TheVariants as works
use Rattle.machine_data.specs.declared.component.HostDef.{HostDef}
use Rattle.machine_data.specs.declared.component.HostDef.TheVariants as host_def

-- a host's own work is open
abbrev pub own_course : {W : Type 0} → OpenWork W → HostDef
own_course (works.Own work) = host_def.Open
own_course (works.Settled work) = work.left
