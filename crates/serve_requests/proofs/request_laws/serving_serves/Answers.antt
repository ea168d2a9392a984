use Rattle.serve_requests.proofs.ServedLemmas.{serving_serves}
use Rattle.serve_requests.proofs.request_laws.serving_serves.Goals as goal

pub returns : goal.returns
returns c = serving_serves
