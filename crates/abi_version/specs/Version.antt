-- The version of the library for C, as the header has it: include/hrazvanut.h, HRAZVANUT_VERSION. docs/check holds the header to these two numbers.
use Rattle.std.specs.Prelude.{ℕ, ◌+◌, ◌*◌}

abbrev pub major : ℕ
major = 7

abbrev pub minor : ℕ
minor = 2

abbrev pub version : ℕ
version = major * 1000 + minor
