-- Replies are printed one after another.
use Rattle.serve_requests.specs.Replies.{reply_line, reply_lines}
use Rattle.serve_requests.specs.declared.request.Reply.{Reply}
use Rattle.std.proofs.Common.{ap, append_assoc, get_or, sym, ◌∙◌}
use Rattle.std.proofs.lemmas.List.{append-nil, drop_all, drop_more}
use Rattle.std.specs.Prelude.{List, drop, length, ℕ, ◌++◌, ◌+◌, ◌<◌, ◌≡◌, ◌≤◌}

pub one_printed : (rs : List Reply) (i : ℕ) (d : Reply) (out all : List ℕ) → i < length rs → out ++ reply_lines (i + 1) (drop i rs) ≡ all → (out ++ reply_line (i + 1) (get_or rs i d)) ++ reply_lines (i + 1 + 1) (drop (i + 1) rs) ≡ all
one_printed rs i d out all within whole =
    append_assoc out (reply_line (i + 1) (get_or rs i d)) (reply_lines (i + 1 + 1) (drop (i + 1) rs)) ∙ (ap (λ (qs : List Reply). out ++ reply_lines (i + 1) qs) (sym (drop_more rs i d within)) ∙ whole)

pub all_printed : (rs : List Reply) (i : ℕ) (out all : List ℕ) → length rs ≤ i → out ++ reply_lines (i + 1) (drop i rs) ≡ all → out ≡ all
all_printed rs i out all past whole = sym (append-nil out) ∙ (ap (λ (qs : List Reply). out ++ reply_lines (i + 1) qs) (sym (drop_all i rs past)) ∙ whole)
