-- The generated scenario, line by line: requests to `edge.req`, which calls `api.do`, which calls `db.get`, which waits for a host.
use Rattle.std.specs.Prelude.{ℕ, zero, suc, List, [], ◌∷◌, ◌++◌, codes, decimal}
use Rattle.std.specs.List.{flat_map}
use Rattle.machine_rules.specs.Texts.{line_text}

abbrev pub head_and_host : List (List ℕ)
head_and_host =
    codes "scenario 1" ∷ codes "handles 100000" ∷ codes "table 1000000" ∷ codes "idle trap" ∷ codes "host disk polls 9 value 100" ∷ []

abbrev pub db : List (List ℕ)
db =
    codes "instance db" ∷ codes "export get callback 1" ∷ codes "bp_inc" ∷ codes "set r9 r0" ∷ codes "call r3 r8 disk"
    ∷ codes "set_new r4" ∷ codes "handle r5 r3" ∷ codes "join r5 r4" ∷ codes "cb_wait r4" ∷ codes "react" ∷ codes "add r8 r9"
    ∷ codes "drop r1" ∷ codes "set_drop r4" ∷ codes "bp_dec" ∷ codes "ret r8" ∷ codes "exit" ∷ []

abbrev pub api : List (List ℕ)
api =
    codes "instance api" ∷ codes "export do callback 1" ∷ codes "set r9 r0" ∷ codes "call r3 r8 db.get r9" ∷ codes "handle r5 r3"
    ∷ codes "set_new r4" ∷ codes "join r5 r4" ∷ codes "cb_wait r4" ∷ codes "react" ∷ codes "skip_eq r2 2 1" ∷ codes "cb_wait r4"
    ∷ codes "drop r1" ∷ codes "set_drop r4" ∷ codes "add r8 1" ∷ codes "ret r8" ∷ codes "exit" ∷ []

abbrev pub edge : List (List ℕ)
edge =
    codes "instance edge" ∷ codes "export req stackful 1" ∷ codes "call_sync r3 api.do r0" ∷ codes "ret r3" ∷ codes "exit" ∷ []

-- the lines before the first start
abbrev pub front_lines : List (List ℕ)
front_lines = head_and_host ++ db ++ api ++ edge ++ codes "main" ∷ []

abbrev pub start_line : ℕ → List ℕ
start_line k = codes "start edge.req " ++ decimal k

abbrev pub finish_line : ℕ → List ℕ
finish_line k = codes "finish " ++ decimal k ++ codes " r0"

-- f 1 to f n
abbrev pub each_to : {X : Type 0} → (ℕ → X) → ℕ → List X
each_to f zero = []
each_to f (suc n) = each_to f n ++ f (suc n) ∷ []

abbrev pub last_lines : List (List ℕ)
last_lines = codes "answer r0" ∷ codes "end" ∷ []

abbrev pub gen_lines : ℕ → List (List ℕ)
gen_lines n = front_lines ++ each_to start_line n ++ each_to finish_line n ++ last_lines

-- the text of the generated scenario with n requests
unfoldable pub gen : ℕ → List ℕ
gen n = flat_map line_text (gen_lines n)
