-- What the tokens of a line are read as. RequestLines has the tokens of each request.
use Rattle.serve_requests.specs.declared.request.Request.{Request}
use Rattle.text_scenario.specs.Grammar.{tokens}
use Rattle.text_scenario.specs.State.{fitting_export}
use Rattle.text_scenario.specs.declared.tree.InstanceText.{InstanceText}
use Rattle.std.specs.Prelude.{List, None, Option, Some, [], codes, if◌then◌else◌, length, ℕ, ◌++◌, ◌<◌, ◌∷◌, ◌≡◌}
use Rattle.std.specs.Str.{bytes_eq}
use Rattle.machine_data.specs.declared.op.Operand.{Operand}
use Rattle.machine_data.specs.declared.op.Operand.TheVariants.{Number, Register}
use Rattle.text_lines.specs.Line.{start_after}
use Rattle.text_lines.specs.Tokens.{◌>>=◌}
use Rattle.text_lines.specs.declared.line.NamedOp.{NamedOp}
use Rattle.text_lines.specs.declared.line.NamedOp.TheVariants as named

-- the number that the operand is, if it is none of a register
abbrev pub number_in : Operand → Option ℕ
number_in (Number n) = Some n
number_in (Register r) = None

unfoldable pub numbers_in : List Operand → Option (List ℕ)
numbers_in [] = Some []
numbers_in (x ∷ xs) = do
  n ← number_in x
  ns ← numbers_in xs
  Some (n ∷ ns)

unfoldable pub request_named : List InstanceText → NamedOp → Option Request
request_named is (named.Start instance export xs) = do
  f ← fitting_export is instance export xs
  ns ← numbers_in xs
  Some (record { instance = f.instance; export = f.export; params = ns })
request_named is _ = None

unfoldable pub request_after : List InstanceText → List (List ℕ) → Option Request
request_after is tokens = do
  o ← start_after tokens
  request_named is o

unfoldable pub request_of : List InstanceText → List (List ℕ) → Option Request
request_of is [] = None
request_of is (token ∷ tokens) = if bytes_eq token (codes "call") then request_after is tokens else None

-- the request of a line is one more, and there was room for it
abbrev pub Takes : List InstanceText → List ℕ → List Request → List Request → Type 0
Takes is line before after = (length before < 10000) × (r : Request) × (after ≡ before ++ r ∷ []) × (request_of is (tokens line) ≡ Some r)
