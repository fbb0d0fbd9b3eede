-- The line and the status of each refusal.
use Rattle.std.specs.Prelude.{ℕ, List, ◌++◌, codes}
use Rattle.std.specs.Fmt.{decimal}
use Rattle.halo_check.specs.declared.fault.ContractKind.{ContractKind}
use Rattle.halo_check.specs.declared.fault.ContractKind.TheVariants as wrong
use Rattle.halo_parse.specs.declared.fault.ContractError.{ContractError}
use Rattle.halo_parse.specs.declared.fault.ContractError.TheVariants as contract
use Rattle.halo_table.specs.declared.fault.TablesError.{TablesError}
use Rattle.halo_table.specs.declared.fault.TablesError.TheVariants as tables
use Rattle.halo_table.specs.declared.fault.TableKind.{TableKind}
use Rattle.halo_table.specs.declared.fault.TableKind.TheVariants as kind
use Rattle.halo_top.specs.declared.refusal.ArgumentKind.{ArgumentKind}
use Rattle.halo_top.specs.declared.refusal.ArgumentKind.TheVariants as argument
use Rattle.halo_top.specs.declared.refusal.InputFile.{InputFile}
use Rattle.halo_top.specs.declared.refusal.InputFile.TheVariants as file
use Rattle.halo_top.specs.declared.refusal.Refusal.{Refusal}
use Rattle.halo_top.specs.declared.refusal.Refusal.TheVariants as refusal
use Rattle.halo_top.specs.declared.refusal.Stop.{Stop}
use Rattle.halo_top.specs.declared.refusal.Stop.TheVariants as stop
use Rattle.halo_top.specs.declared.status.TheConstants.{MAGNITUDE_FAULT, OTHER_FAULT, READ_FAILED}
use Rattle.halo_top.specs.declared.status.TheConstants.{SYNTAX_FAULT, TABLES_FAULT, TOO_LONG, USAGE}

-- the word for a file
abbrev pub file_word : InputFile → List ℕ
file_word file.Tables = codes "tables"
file_word file.Contract = codes "contract"

-- the word for what is wrong with a record of a tables file
abbrev pub kind_word : TableKind → List ℕ
kind_word kind.Header = codes "Header"
kind_word kind.Fields = codes "Fields"
kind_word kind.Name = codes "Name"
kind_word kind.Number = codes "Number"
kind_word kind.Large = codes "Large"
kind_word kind.Again = codes "Again"
kind_word kind.TooMany = codes "TooMany"
kind_word kind.Age = codes "Age"
kind_word kind.Decrements = codes "Decrements"
kind_word kind.Closed = codes "Closed"

-- the word for what is wrong with a line of a contract file
abbrev pub contract_kind_word : ContractKind → List ℕ
contract_kind_word wrong.Syntax = codes "Syntax"
contract_kind_word wrong.Magnitude = codes "Magnitude"
contract_kind_word wrong.Zero = codes "Zero"
contract_kind_word wrong.Years = codes "Years"
contract_kind_word wrong.Order = codes "Order"
contract_kind_word wrong.Twice = codes "Twice"
contract_kind_word wrong.NoTable = codes "NoTable"
contract_kind_word wrong.NoAge = codes "NoAge"
contract_kind_word wrong.NoLife = codes "NoLife"
contract_kind_word wrong.NoCause = codes "NoCause"
contract_kind_word wrong.Rank = codes "Rank"
contract_kind_word wrong.NotLasting = codes "NotLasting"
contract_kind_word wrong.Shared = codes "Shared"
contract_kind_word wrong.NotAtStart = codes "NotAtStart"
contract_kind_word wrong.NotAlive = codes "NotAlive"
contract_kind_word wrong.Missing = codes "Missing"

-- the word for what is wrong with the arguments of `columns`
abbrev pub argument_word : ArgumentKind → List ℕ
argument_word argument.Syntax = codes "Syntax"
argument_word argument.Magnitude = codes "Magnitude"
argument_word argument.Zero = codes "Zero"
argument_word argument.NoTable = codes "NoTable"

-- the line that a refusal writes, without its line feed: the fault of a file is told with the
-- number of the record or the line, from 1
abbrev pub words_of : Refusal → List ℕ
words_of refusal.Usage =
    codes "usage: halo value T C, check T C, compile T C, explain T C, columns T NAME P/Q, sample N"
words_of (refusal.Read f) = codes "read fault " ++ file_word f
words_of (refusal.TooLong f) = codes "too long " ++ file_word f
words_of (refusal.Table fault) =
    codes "tables record " ++ decimal fault.row ++ codes " " ++ kind_word fault.kind
words_of (refusal.Contract fault) =
    codes "contract line " ++ decimal fault.line ++ codes " " ++ contract_kind_word fault.kind
words_of (refusal.Argument k) = codes "argument " ++ argument_word k

-- the line that a refusal writes
abbrev pub line_of : Refusal → List ℕ
line_of r = words_of r ++ codes "\n"

-- the status of a fault of a contract file
abbrev pub contract_status : ContractKind → ℕ
contract_status wrong.Syntax = SYNTAX_FAULT
contract_status wrong.Magnitude = MAGNITUDE_FAULT
contract_status _ = OTHER_FAULT

-- the status of a fault of the arguments of `columns`
abbrev pub argument_status : ArgumentKind → ℕ
argument_status argument.Syntax = SYNTAX_FAULT
argument_status argument.Magnitude = MAGNITUDE_FAULT
argument_status argument.Zero = OTHER_FAULT
argument_status argument.NoTable = OTHER_FAULT

-- the status of a refusal
abbrev pub status_of : Refusal → ℕ
status_of refusal.Usage = USAGE
status_of (refusal.Read _) = READ_FAILED
status_of (refusal.TooLong _) = TOO_LONG
status_of (refusal.Table _) = TABLES_FAULT
status_of (refusal.Contract fault) = contract_status fault.kind
status_of (refusal.Argument k) = argument_status k

-- why a command stops where its tables file gives no tables
abbrev pub stop_of_tables : TablesError → Stop
stop_of_tables (tables.Fault fault) = stop.Refused (refusal.Table fault)
stop_of_tables tables.Memory = stop.Memory

-- why it stops where its contract file gives no contract
abbrev pub stop_of_contract : ContractError → Stop
stop_of_contract (contract.Fault fault) = stop.Refused (refusal.Contract fault)
stop_of_contract contract.Memory = stop.Memory

-- why it stops where something is wrong with an argument
abbrev pub stop_of_argument : ArgumentKind → Stop
stop_of_argument kind = stop.Refused (refusal.Argument kind)
