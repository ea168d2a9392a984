use Rattle.serve_requests.proofs.CallLemmas.{call_is_made}
use Rattle.serve_requests.proofs.request_laws.call_is_made.Goals as goal

pub returns : goal.returns
returns c = call_is_made
