-- What a function leaves in an array that it was lent to work in.
use Rattle.std.specs.Prelude.{◌≡◌, List, length}

-- 01: "a promise that only limits a result is enough just where the rules leave that result open, and there it says so". An array
-- of an inner function is scratch: it stays as long as it was, and where the contract says no more of it, what it holds is open.
abbrev pub Scratch : {A : Type 0} → List A → List A → Type 0
Scratch before after = length after ≡ length before
