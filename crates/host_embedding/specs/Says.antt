-- What the relay says of itself.
use Rattle.host_embedding.specs.Host.{TakesOne}
use Rattle.host_embedding.specs.Keeps.{Keeps}
use Rattle.host_embedding.specs.Relays.{Relays}
use Rattle.host_embedding.specs.declared.parts.TheConstants.{DOUBLE, NEXT}
use Rattle.host_embedding.specs.declared.relay.Relay.{Relay}
use Rattle.store_works.specs.declared.scripted.ScriptedHost.{ScriptedHost}
use Rattle.task_loop.specs.HasRun.{HasStepResult}
use Rattle.task_loop.specs.Says.{Says, unscripted}
use Rattle.machine_data.specs.declared.component.Component.{Component}
use Rattle.task_store.specs.declared.store.Store.{Store}
use Rattle.ops_turns.specs.declared.mains.MainStep.{MainStep}

-- It needs two exports that take one word, knows that its scope is of the store, and says of each step what becomes of its word.
abbrev pub relay_says : Says Relay
relay_says = unscripted (λ m c. TakesOne c DOUBLE × TakesOne c NEXT) Keeps (λ m s step n t. Relays m step n)

-- it did this step
abbrev pub HasRelayed : {T G : Type 0} → Component → MainStep → Relay → Store T ScriptedHost G → Relay → Store T ScriptedHost G → Type 0
HasRelayed c step m s n t = HasStepResult relay_says (λ (w : ScriptedHost). w.left) c step m s n t
