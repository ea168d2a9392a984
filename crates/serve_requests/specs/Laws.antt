-- The laws of a server of requests.
use Rattle.std.specs.Prelude.{List, length, map, replicate}
use Rattle.serve_requests.specs.Served.{IsServed}
use Rattle.serve_requests.specs.Serving.{Asked, IsCallOf, Serving, callee_named, reply_of}
use Rattle.serve_requests.specs.declared.request.Stage.{Stage}
use Rattle.serve_requests.specs.declared.request.Stage.TheVariants.{Waits}
use Rattle.serve_requests.specs.declared.request.Request.{Request}
use Rattle.machine_data.specs.Core.{Core}
use Rattle.machine_data.specs.declared.component.Component.{Component}
use Rattle.machine_rules.specs.Calls.{next_thread}
use Rattle.machine_rules.specs.History.{Moment}
use Rattle.machine_rules.specs.MainOps.{main_started}

-- at first no request was started
abbrev pub at_first : Asked → List Stage
at_first x = replicate (length x.requests) Waits

-- whoever serves the requests of a run has served them
abbrev pub ServingServes : Type 0
ServingServes = (x : Asked) (h : List Moment) (b : List Stage) → Serving x (at_first x) h b → IsServed x (map reply_of b) h

-- a call that main starts is one of the request's export, with its tokens in r0 and up
abbrev pub CallIsMade : Type 0
CallIsMade = (c : Component) (r : Request) (s : Core) → IsCallOf r (next_thread s) (main_started c (callee_named r) r.params s)
