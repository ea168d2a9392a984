-- Which lines say requests, and the bad line of others. Nothing here is about a reader.
use Rattle.serve_requests.specs.Serving.{callee_named}
use Rattle.serve_requests.specs.declared.request.Request.{Request}
use Rattle.text_scenario.specs.Grammar.{lines, spelled}
use Rattle.text_scenario.specs.Placement.{params_of}
use Rattle.text_scenario.specs.Spelling.{Lines, name_of}
use Rattle.text_scenario.specs.declared.read.TextError.{TextError}
use Rattle.text_scenario.specs.declared.read.TextError.TheVariants as errors
use Rattle.text_scenario.specs.declared.tree.InstanceText.{InstanceText}
use Rattle.std.specs.Global.{Vec}
use Rattle.std.specs.List.{list_all}
use Rattle.std.specs.Prelude.{Err, List, Ok, Result, Some, [], codes, decimal, length, map, take, true, ℕ, ◌+◌, ◌-◌, ◌∷◌, ◌≡◌, ◌≤◌}
use Rattle.text_lines.specs.Fits.{number_fits}

-- `call INSTANCE.EXPORT X*`
abbrev pub request_tokens : List InstanceText → Request → List (List ℕ)
request_tokens is r = codes "call" ∷ name_of is (callee_named r) ∷ map decimal r.params

-- it names an export, and has a number below 2^64 for each of its parameters
pub record Suits (is : List InstanceText) (r : Request) : Type 0 where
  pub params : params_of is (callee_named r) ≡ Some (length r.params)
  pub numbers : list_all number_fits r.params ≡ true

abbrev pub EachSuits : List InstanceText → List Request → Type 0
EachSuits is [] = Unit {0}
EachSuits is (r ∷ rs) = Suits is r × EachSuits is rs

-- these lines say these requests
pub record AreRequests (is : List InstanceText) (ls : Lines) (rs : List Request) : Type 0 where
  pub few : length rs ≤ 10000
  pub suited : EachSuits is rs
  pub lines : ls ≡ map (request_tokens is) rs

-- Line n, from 1, is the bad one: the lines before it say requests, and with it they say none.
pub record IsBadRequest (is : List InstanceText) (text : List ℕ) (n : ℕ) : Type 0 where
  pub counts : (1 ≤ n) × (n ≤ length (lines text))
  pub before : (rs : List Request) × AreRequests is (take (n - 1) (spelled text)) rs
  pub at : (rs : List Request) → AreRequests is (take n (spelled text)) rs → ⊥

-- A text's lines say requests, or the bad one is told, where the first one has this number; it may be out of memory.
abbrev pub ReadsRequests : List InstanceText → List ℕ → ℕ → Result (Vec Request) TextError → Type 0
ReadsRequests is text first (Ok rs) = AreRequests is (spelled text) rs.items
ReadsRequests is text first (Err (errors.Bad n)) = (first ≤ n) × IsBadRequest is text (n + 1 - first)
ReadsRequests is text first (Err errors.NoMemory) = Unit {0}
