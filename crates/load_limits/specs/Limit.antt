-- The sections of a table, as the code names them.
use Rattle.std.specs.Prelude.{Option, Some, None}
use Rattle.std.proofs.Math.Option as math
use Rattle.spec_file.specs.Limit as file
use Rattle.load_limits.specs.declared.Section.{Section}
use Rattle.load_limits.specs.declared.Section.TheVariants.{UserGroups, HostGroups, Members, AccessGroups, Inputs, Rules, References}

-- what may be missing, as the code answers it
abbrev pub known : {A : Type 0} → math.Option A → Option A
known math.none = None
known (math.some x) = Some x

abbrev pub as_section : Section → file.Section
as_section UserGroups = file.user_groups
as_section HostGroups = file.host_groups
as_section Members = file.members
as_section AccessGroups = file.access_groups
as_section Inputs = file.inputs
as_section Rules = file.rules
as_section References = file.references

abbrev pub section_of : math.Option file.Section → Option Section
section_of math.none = None
section_of (math.some file.user_groups) = Some UserGroups
section_of (math.some file.host_groups) = Some HostGroups
section_of (math.some file.members) = Some Members
section_of (math.some file.access_groups) = Some AccessGroups
section_of (math.some file.inputs) = Some Inputs
section_of (math.some file.rules) = Some Rules
section_of (math.some file.references) = Some References
