-- The lines of a well formed script are read as that script.
use Rattle.std.proofs.Common.{◌≡◌, ℕ, ◌+◌, Bool, true, false, List, [], ◌∷◌, ◌++◌, Some, refl, sym, ap, subst, ◌∙◌, append_assoc}
use Rattle.std.proofs.lemmas.List.{append-nil}
use Rattle.machine_data.specs.declared.op.Op.{Op}
use Rattle.machine_data.specs.declared.op.Op.TheVariants as op
use Rattle.machine_data.specs.declared.op.CallOp.{CallOp}
use Rattle.machine_data.specs.declared.op.CallOp.TheVariants as call_op
use Rattle.text_lines.specs.declared.line.Line.{Line}
use Rattle.text_lines.specs.declared.line.Line.TheVariants as line
use Rattle.text_lines.specs.Fits.{plain_op_fits}
use Rattle.text_lines.proofs.LineLaws.{line_tokens, line_fits, line_again}
use Rattle.text_scenario.specs.declared.state.Body.{Body}
use Rattle.text_scenario.specs.declared.state.Opening.{Opening}
use Rattle.text_scenario.specs.declared.state.State.{State}
use Rattle.text_scenario.specs.declared.state.State.TheVariants as state
use Rattle.text_scenario.specs.declared.tree.InstanceText.{InstanceText}
use Rattle.text_scenario.specs.Spelling.{Lines, op_tokens, script_lines}
use Rattle.machine_data.specs.Read.{is_callback}
use Rattle.text_scenario.specs.Placement.{EachIsPlaced, CallIsPlaced, OpFits, OpIsPlaced}
use Rattle.text_scenario.specs.State.{script_body, with_op, after_op, after_call, after, after_tokens, read_from}
use Rattle.text_scenario.proofs.SoFar.{BodyFits}
use Rattle.text_scenario.proofs.StateLaws.{plain}
use Rattle.text_scenario.proofs.CalleeLaws.{CallLine, call_line, call_sync_line, call_host_line, call_sync_host_line}

-- ---- Reading on

-- from s these lines are read to t, whatever follows
abbrev pub ReadsTo : State → Lines → State → Type 0
ReadsTo s ls t = (n : ℕ) (rest : Lines) → (k : ℕ) × (read_from s n (ls ++ rest) ≡ read_from t k rest)

pub nothing : (s : State) → ReadsTo s [] s
nothing s n rest = (n, refl)

pub both : (s t u : State) (ls ms : Lines) → ReadsTo s ls t → ReadsTo t ms u → ReadsTo s (ls ++ ms) u
both s t u ls ms a b n rest =
    let one = a n (ms ++ rest) in
    let two = b one.0 rest in
    (two.0, ap (read_from s n) (append_assoc ls ms rest) ∙ one.1 ∙ two.1)

pub one_line : (s t : State) (l : Line) → line_fits l ≡ true → after s l ≡ Some t → ReadsTo s (line_tokens l ∷ []) t
unfolding read_from after_tokens
one_line s t l fits e n rest = (n + 1, rw (line_again l fits, e) refl)

-- ---- Ops

-- the line that is read as this op in any open script
record OpLine (b : Body) (o : Op) : Type 0 where
  of : Line
  tokens : line_tokens of ≡ op_tokens b.hosts b.instances o
  fits : line_fits of ≡ true
  takes : (s : State) → script_body s ≡ Some b → after s of ≡ after_op s o

plain_line : (b : Body) (o : Op) → plain_op_fits o ≡ true → OpLine b o
unfolding after
plain_line b o fits = record { of = line.Op o; tokens = (plain b o fits).tokens; fits = fits; takes = λ s at. refl }

named_line : (b : Body) (o : CallOp) → CallLine b.hosts b.instances o → OpLine b (op.Call o)
unfolding after after_call
named_line b o l = record { of = line.Call l.of; tokens = l.tokens; fits = l.fits; takes = λ s at. rw (at, l.read) refl }

subtask_line : (b : Body) (o : CallOp) → BodyFits b → CallIsPlaced b.hosts b.instances o → OpLine b (op.Call o)
subtask_line b (call_op.Call r q f xs) fits placed = named_line b (call_op.Call r q f xs) (call_line b.hosts b.instances fits.hosts fits.instances r q f xs placed)
subtask_line b (call_op.CallSync r f xs) fits placed = named_line b (call_op.CallSync r f xs) (call_sync_line b.hosts b.instances fits.hosts fits.instances r f xs placed)
subtask_line b (call_op.CallHost r q h) fits placed = named_line b (call_op.CallHost r q h) (call_host_line b.hosts b.instances fits.hosts fits.instances r q h placed)
subtask_line b (call_op.CallSyncHost r h) fits placed = named_line b (call_op.CallSyncHost r h) (call_sync_host_line b.hosts b.instances fits.hosts fits.instances r h placed)
subtask_line b (call_op.Cancel r x) fits placed = plain_line b (op.Call (call_op.Cancel r x)) placed
subtask_line b (call_op.CancelSync r x) fits placed = plain_line b (op.Call (call_op.CancelSync r x)) placed
subtask_line b (call_op.Drop x) fits placed = plain_line b (op.Call (call_op.Drop x)) placed

op_line : (b : Body) (o : Op) → BodyFits b → OpFits b.hosts b.instances o → OpLine b o
op_line b (op.Data o) fits placed = plain_line b (op.Data o) placed
op_line b (op.Task o) fits placed = plain_line b (op.Task o) placed
op_line b (op.Set o) fits placed = plain_line b (op.Set o) placed
op_line b (op.Call o) fits placed = subtask_line b o fits placed
op_line b (op.Thread o) fits placed = plain_line b (op.Thread o) placed

-- ---- Scripts

-- `at` is the state with a script that takes ops
pub record TakesOps (b : Body) (callback : Bool) (at : List Op → State) : Type 0 where
  pub body : (ops : List Op) → script_body (at ops) ≡ Some b
  pub takes : (ops : List Op) (o : Op) → with_op callback ops o ≡ Some (ops ++ o ∷ []) → after_op (at ops) o ≡ Some (at (ops ++ o ∷ []))

with_op_is : (b : Body) (callback : Bool) (ops : List Op) (o : Op) → OpIsPlaced b.hosts b.instances callback ops o → with_op callback ops o ≡ Some (ops ++ o ∷ [])
unfolding with_op
with_op_is b callback ops o placed = rw (placed.room, placed.suits) refl

module _ (b : Body) (fits : BodyFits b) (callback : Bool) (at : List Op → State) (takes : TakesOps b callback at) where
  op_read : (ops : List Op) (o : Op) → OpIsPlaced b.hosts b.instances callback ops o → ReadsTo (at ops) (op_tokens b.hosts b.instances o ∷ []) (at (ops ++ o ∷ []))
  op_read ops o placed =
      let l = op_line b o fits placed.fits in
      let next : after (at ops) l.of ≡ Some (at (ops ++ o ∷ [])) = l.takes (at ops) (takes.body ops) ∙ takes.takes ops o (with_op_is b callback ops o placed) in
      subst (λ (ws : List (List ℕ)). ReadsTo (at ops) (ws ∷ []) (at (ops ++ o ∷ []))) l.tokens (one_line (at ops) (at (ops ++ o ∷ [])) l.of l.fits next)

  pub ops_read : (before os : List Op) → EachIsPlaced (OpIsPlaced b.hosts b.instances callback) before os → ReadsTo (at before) (script_lines b.hosts b.instances os) (at (before ++ os))
  ops_read before [] each = subst (λ (os : List Op). ReadsTo (at before) [] (at os)) (sym (append-nil before)) (nothing (at before))
  ops_read before (o ∷ os) each =
      let one = op_read before o each.0 in
      let more = ops_read (before ++ o ∷ []) os each.1 in
      subst (λ (all : List Op). ReadsTo (at before) (script_lines b.hosts b.instances (o ∷ os)) (at all)) (append_assoc before (o ∷ []) os)
      (both (at before) (at (before ++ o ∷ [])) (at (before ++ o ∷ [] ++ os)) (op_tokens b.hosts b.instances o ∷ []) (script_lines b.hosts b.instances os) one more)

pub start_takes : (b : Body) (i : InstanceText) (h : Opening) → TakesOps b (is_callback h.kind) (λ ops. state.Script b i h ops)
unfolding script_body after_op
start_takes b i h = record { body = λ ops. refl; takes = λ ops o e. rw e refl }

pub react_takes : (b : Body) (i : InstanceText) (h : Opening) (start : List Op) → TakesOps b true (λ ops. state.React b i h start ops)
unfolding script_body after_op
react_takes b i h start = record { body = λ ops. refl; takes = λ ops o e. rw e refl }

pub thread_takes : (b : Body) (i : InstanceText) (slot : ℕ) → TakesOps b false (λ ops. state.Thread b i slot ops)
unfolding script_body after_op
thread_takes b i slot = record { body = λ ops. refl; takes = λ ops o e. rw e refl }
