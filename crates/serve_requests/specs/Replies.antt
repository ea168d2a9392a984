-- The lines that say replies.
use Rattle.serve_requests.specs.declared.request.Reply.{Reply}
use Rattle.serve_requests.specs.declared.request.Reply.TheVariants as replies
use Rattle.std.specs.Prelude.{List, [], codes, decimal, ℕ, ◌++◌, ◌+◌, ◌∷◌}

-- the line of the k-th reply, if there is one
abbrev pub reply_line : ℕ → Reply → List ℕ
reply_line k replies.None = []
reply_line k (replies.Value v) = codes "reply " ++ decimal k ++ codes " = " ++ decimal v ++ codes "\n"
reply_line k (replies.Refused t) = codes "reply " ++ decimal k ++ codes " refused " ++ decimal t ++ codes "\n"

-- those of these replies, the first of which is the k-th
abbrev pub reply_lines : ℕ → List Reply → List ℕ
reply_lines k [] = []
reply_lines k (r ∷ rs) = reply_line k r ++ reply_lines (k + 1) rs
