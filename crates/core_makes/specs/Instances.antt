-- An instance more.
use Rattle.machine_data.specs.Core.{Core, no_handles, untouched}
use Rattle.machine_data.specs.Maps.{insert, size}

-- one instance more, at the next place
unfoldable pub with_instance : Core → Core
with_instance s = record s {
  instances = insert s.instances (size s.instances) untouched;
  handles = insert s.handles (size s.instances) no_handles;
  thread_handles = insert s.thread_handles (size s.instances) no_handles;
}
