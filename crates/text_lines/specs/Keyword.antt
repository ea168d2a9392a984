-- The tokens with which lines begin.
use Rattle.std.specs.Prelude.{ℕ, List, [], ◌∷◌, Option, codes, find, length, ◌==◌, if◌then◌else◌}
use Rattle.std.specs.Str.{bytes_eq}
use Rattle.text_lines.specs.declared.keyword.HeadKeyword.{HeadKeyword}
use Rattle.text_lines.specs.declared.keyword.HeadKeyword.TheVariants as head
use Rattle.text_lines.specs.declared.keyword.PartKeyword.{PartKeyword}
use Rattle.text_lines.specs.declared.keyword.PartKeyword.TheVariants as part
use Rattle.text_lines.specs.declared.keyword.DataKeyword.{DataKeyword}
use Rattle.text_lines.specs.declared.keyword.DataKeyword.TheVariants as datum
use Rattle.text_lines.specs.declared.keyword.TaskKeyword.{TaskKeyword}
use Rattle.text_lines.specs.declared.keyword.TaskKeyword.TheVariants as task
use Rattle.text_lines.specs.declared.keyword.SetKeyword.{SetKeyword}
use Rattle.text_lines.specs.declared.keyword.SetKeyword.TheVariants as waitable
use Rattle.text_lines.specs.declared.keyword.CallKeyword.{CallKeyword}
use Rattle.text_lines.specs.declared.keyword.CallKeyword.TheVariants as call
use Rattle.text_lines.specs.declared.keyword.ThreadKeyword.{ThreadKeyword}
use Rattle.text_lines.specs.declared.keyword.ThreadKeyword.TheVariants as thread
use Rattle.text_lines.specs.declared.keyword.MainKeyword.{MainKeyword}
use Rattle.text_lines.specs.declared.keyword.MainKeyword.TheVariants as main
use Rattle.text_lines.specs.declared.keyword.FrameKeyword.{FrameKeyword}
use Rattle.text_lines.specs.declared.keyword.FrameKeyword.TheVariants as frame
use Rattle.text_lines.specs.declared.keyword.Keyword.{Keyword}
use Rattle.text_lines.specs.declared.keyword.Keyword.TheVariants as keyword

abbrev pub head_keyword : HeadKeyword → List ℕ
head_keyword head.Scenario = codes "scenario"
head_keyword head.Handles = codes "handles"
head_keyword head.Table = codes "table"
head_keyword head.Idle = codes "idle"

abbrev pub part_keyword : PartKeyword → List ℕ
part_keyword part.Host = codes "host"
part_keyword part.Instance = codes "instance"
part_keyword part.Export = codes "export"
part_keyword part.React = codes "react"
part_keyword part.Thread = codes "thread"
part_keyword part.Bad = codes "bad"

abbrev pub data_keyword : DataKeyword → List ℕ
data_keyword datum.Set = codes "set"
data_keyword datum.Add = codes "add"
data_keyword datum.Handle = codes "handle"
data_keyword datum.Load = codes "load"
data_keyword datum.Store = codes "store"
data_keyword datum.SkipEq = codes "skip_eq"

abbrev pub task_keyword : TaskKeyword → List ℕ
task_keyword task.Ret = codes "ret"
task_keyword task.RetBad = codes "ret_bad"
task_keyword task.TaskCancel = codes "task_cancel"
task_keyword task.Exit = codes "exit"
task_keyword task.CbYield = codes "cb_yield"
task_keyword task.CbWait = codes "cb_wait"
task_keyword task.Code = codes "code"
task_keyword task.BpInc = codes "bp_inc"
task_keyword task.BpDec = codes "bp_dec"

abbrev pub set_keyword : SetKeyword → List ℕ
set_keyword waitable.New = codes "set_new"
set_keyword waitable.Drop = codes "set_drop"
set_keyword waitable.Wait = codes "wait"
set_keyword waitable.Poll = codes "poll"
set_keyword waitable.Join = codes "join"

abbrev pub call_keyword : CallKeyword → List ℕ
call_keyword call.Call = codes "call"
call_keyword call.CallSync = codes "call_sync"
call_keyword call.Cancel = codes "cancel"
call_keyword call.CancelSync = codes "cancel_sync"
call_keyword call.Drop = codes "drop"

abbrev pub thread_keyword : ThreadKeyword → List ℕ
thread_keyword thread.New = codes "thread_new"
thread_keyword thread.Index = codes "thread_index"
thread_keyword thread.ResumeLater = codes "resume_later"
thread_keyword thread.Suspend = codes "suspend"
thread_keyword thread.Yield = codes "yield"
thread_keyword thread.SuspendThenResume = codes "suspend_then_resume"
thread_keyword thread.YieldThenResume = codes "yield_then_resume"
thread_keyword thread.SuspendThenPromote = codes "suspend_then_promote"
thread_keyword thread.YieldThenPromote = codes "yield_then_promote"

abbrev pub main_keyword : MainKeyword → List ℕ
main_keyword main.Start = codes "start"
main_keyword main.Finish = codes "finish"
main_keyword main.Spawn = codes "spawn"
main_keyword main.Abort = codes "abort"
main_keyword main.Await = codes "await"
main_keyword main.Quiet = codes "quiet"
main_keyword main.Ready = codes "ready"

abbrev pub frame_keyword : FrameKeyword → List ℕ
frame_keyword frame.Main = codes "main"
frame_keyword frame.Answer = codes "answer"
frame_keyword frame.Aborter = codes "aborter"
frame_keyword frame.End = codes "end"

abbrev pub keyword_text : Keyword → List ℕ
keyword_text (keyword.Head k) = head_keyword k
keyword_text (keyword.Part k) = part_keyword k
keyword_text (keyword.Data k) = data_keyword k
keyword_text (keyword.Task k) = task_keyword k
keyword_text (keyword.Set k) = set_keyword k
keyword_text (keyword.Call k) = call_keyword k
keyword_text (keyword.Thread k) = thread_keyword k
keyword_text (keyword.Main k) = main_keyword k
keyword_text (keyword.Frame k) = frame_keyword k

abbrev pub keywords_three : List Keyword
keywords_three =
    keyword.Data datum.Set ∷ keyword.Data datum.Add ∷ keyword.Task task.Ret ∷ keyword.Part part.Bad ∷ keyword.Frame frame.End ∷ []

abbrev pub keywords_four : List Keyword
keywords_four =
    keyword.Data datum.Load ∷ keyword.Task task.Exit ∷ keyword.Head head.Idle ∷ keyword.Part part.Host ∷ keyword.Task task.Code
    ∷ keyword.Set waitable.Wait ∷ keyword.Set waitable.Poll ∷ keyword.Set waitable.Join ∷ keyword.Call call.Call
    ∷ keyword.Call call.Drop ∷ keyword.Frame frame.Main ∷ []

abbrev pub keywords_five : List Keyword
keywords_five =
    keyword.Data datum.Store ∷ keyword.Main main.Start ∷ keyword.Head head.Table ∷ keyword.Part part.React
    ∷ keyword.Thread thread.Yield ∷ keyword.Main main.Spawn ∷ keyword.Main main.Abort ∷ keyword.Main main.Await
    ∷ keyword.Main main.Quiet ∷ keyword.Main main.Ready ∷ []

abbrev pub keywords_six : List Keyword
keywords_six =
    keyword.Data datum.Handle ∷ keyword.Main main.Finish ∷ keyword.Part part.Export ∷ keyword.Part part.Thread
    ∷ keyword.Task task.BpInc ∷ keyword.Task task.BpDec ∷ keyword.Call call.Cancel ∷ keyword.Frame frame.Answer ∷ []

abbrev pub keywords_seven : List Keyword
keywords_seven =
    keyword.Data datum.SkipEq ∷ keyword.Task task.RetBad ∷ keyword.Head head.Handles ∷ keyword.Task task.CbWait
    ∷ keyword.Set waitable.New ∷ keyword.Thread thread.Suspend ∷ keyword.Frame frame.Aborter ∷ []

abbrev pub keywords_eight : List Keyword
keywords_eight =
    keyword.Head head.Scenario ∷ keyword.Part part.Instance ∷ keyword.Task task.CbYield ∷ keyword.Set waitable.Drop ∷ []

abbrev pub keywords_long : List Keyword
keywords_long =
    keyword.Task task.TaskCancel ∷ keyword.Call call.CallSync ∷ keyword.Call call.CancelSync ∷ keyword.Thread thread.New
    ∷ keyword.Thread thread.Index ∷ keyword.Thread thread.ResumeLater ∷ keyword.Thread thread.SuspendThenResume
    ∷ keyword.Thread thread.YieldThenResume ∷ keyword.Thread thread.SuspendThenPromote ∷ keyword.Thread thread.YieldThenPromote ∷ []

-- the keywords among which a token of this length is
abbrev pub keywords_of : ℕ → List Keyword
keywords_of n =
    if n == 3 then keywords_three
    else if n == 4 then keywords_four
    else if n == 5 then keywords_five
    else if n == 6 then keywords_six
    else if n == 7 then keywords_seven
    else if n == 8 then keywords_eight
    else keywords_long

abbrev pub keyword_at : List ℕ → Option Keyword
keyword_at token = find (λ k. bytes_eq (keyword_text k) token) (keywords_of (length token))
