-- What a token is read as. LineTokens has the tokens of each value, and Fits which values fit.
use Rattle.std.specs.Prelude.{ℕ, Bool, false, not, ◌^◌, List, [], ◌∷◌, length, Option, Some, None, option_and_then, slice_index, codes, nat_lt, nat_le, ◌==◌, ◌&&◌, ◌||◌, if◌then◌else◌}
use Rattle.std.specs.List.{list_all}
use Rattle.std.specs.Char.{is_ascii_digit, is_ascii_lowercase}
use Rattle.std.specs.Str.{bytes_eq}
use Rattle.std.specs.Str.Parse.{digits_value}
use Rattle.machine_data.specs.declared.op.Operand.{Operand}
use Rattle.machine_data.specs.declared.op.Operand.TheVariants.{Number, Register}
use Rattle.machine_data.specs.declared.scenario.IdleLine.{IdleLine}
use Rattle.machine_data.specs.declared.scenario.Version.TheVariants as version
use Rattle.machine_data.specs.declared.scenario.Version.{Version}
use Rattle.machine_data.specs.declared.scenario.IdleLine.TheVariants as idle
use Rattle.machine_data.specs.declared.component.ExportKind.{ExportKind}
use Rattle.machine_data.specs.declared.component.ExportKind.TheVariants as kind

infixl 10 ◌>>=◌
abbrev pub ◌>>=◌ : {A B : Type 0} → Option A → (A → Option B) → Option B
o >>= f = option_and_then f o

-- digits, the first of them not 0 if there are more
abbrev pub is_numeral : List ℕ → Bool
is_numeral token =
    if length token == 0 then false
    else list_all is_ascii_digit token && (length token == 1 || not (slice_index token 0 == 48))

-- the number that digits write, below 2^64
unfoldable pub digits_at : List ℕ → Option ℕ
digits_at token = if list_all is_ascii_digit token && nat_lt (digits_value 10 token) (2 ^ 64) then Some (digits_value 10 token) else None

unfoldable pub number_at : List ℕ → Option ℕ
number_at token = if is_numeral token && nat_lt (digits_value 10 token) (2 ^ 64) then Some (digits_value 10 token) else None

unfoldable pub bounded_at : ℕ → List ℕ → Option ℕ
bounded_at limit token = number_at token >>= λ n. if nat_le n limit then Some n else None

-- `r` and the number
unfoldable pub register_up_to : ℕ → List ℕ → Option ℕ
register_up_to most [] = None
register_up_to most (b ∷ bs) = if b == 114 then bounded_at most bs else None

abbrev pub register_at : List ℕ → Option ℕ
register_at token = register_up_to 15 token

abbrev pub or_number : List ℕ → Option ℕ → Option Operand
or_number token (Some r) = Some (Register r)
or_number token None = number_at token >>= λ n. Some (Number n)

unfoldable pub operand_at : List ℕ → Option Operand
operand_at token = or_number token (register_at token)

unfoldable pub version_at : List ℕ → Option Version
version_at token =
    if bytes_eq token (codes "1") then Some version.One
    else if bytes_eq token (codes "2") then Some version.Two
    else None

unfoldable pub idle_at : List ℕ → Option IdleLine
idle_at token =
    if bytes_eq token (codes "trap") then Some idle.Trap
    else if bytes_eq token (codes "wait") then Some idle.Wait
    else None

unfoldable pub kind_at : List ℕ → Option ExportKind
kind_at token =
    if bytes_eq token (codes "callback") then Some kind.Callback
    else if bytes_eq token (codes "stackful") then Some kind.Stackful
    else if bytes_eq token (codes "blocking") then Some kind.Blocking
    else if bytes_eq token (codes "sync") then Some kind.Sync
    else None

abbrev pub is_name_byte : ℕ → Bool
is_name_byte b = is_ascii_lowercase b || is_ascii_digit b || (b == 95)

-- 1 to 16 of a to z, 0 to 9 and _, a letter first
abbrev pub is_name : List ℕ → Bool
is_name token =
    if length token == 0 then false
    else if nat_lt 16 (length token) then false
    else is_ascii_lowercase (slice_index token 0) && list_all is_name_byte token

-- exactly so many tokens
unfoldable pub one_of : List (List ℕ) → Option (List ℕ)
one_of [] = None
one_of (a ∷ []) = Some a
one_of (a ∷ b ∷ more) = None

unfoldable pub two_of : List (List ℕ) → Option (List ℕ × List ℕ)
two_of [] = None
two_of (a ∷ []) = None
two_of (a ∷ b ∷ []) = Some (a, b)
two_of (a ∷ b ∷ c ∷ more) = None

unfoldable pub three_of : List (List ℕ) → Option (List ℕ × List ℕ × List ℕ)
three_of [] = None
three_of (a ∷ []) = None
three_of (a ∷ b ∷ []) = None
three_of (a ∷ b ∷ c ∷ []) = Some (a, b, c)
three_of (a ∷ b ∷ c ∷ d ∷ more) = None

unfoldable pub four_of : List (List ℕ) → Option (List ℕ × List ℕ × List ℕ × List ℕ)
four_of [] = None
four_of (a ∷ []) = None
four_of (a ∷ b ∷ []) = None
four_of (a ∷ b ∷ c ∷ []) = None
four_of (a ∷ b ∷ c ∷ d ∷ []) = Some (a, b, c, d)
four_of (a ∷ b ∷ c ∷ d ∷ e ∷ more) = None

-- each token is read by the same reader
unfoldable pub each_at : {A : Type 0} → (List ℕ → Option A) → List (List ℕ) → Option (List A)
each_at at [] = Some []
each_at at (token ∷ tokens) = do
  x ← at token
  xs ← each_at at tokens
  Some (x ∷ xs)
