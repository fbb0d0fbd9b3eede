-- Where the files are told as far as they are needed, words and files call for an answer.
use Rattle.std.proofs.Common.{◌≡◌, ℕ, ◌^◌, List, [], ◌∷◌, length, arith, refl, inl, inr, ap}
use Rattle.std.proofs.Math.Decide.{dec_le}
use Rattle.std.proofs.Common.{◌⊎◌, ◌+◌, ◌-◌, ◌≤◌, subst, sym}
use Rattle.std.specs.Prelude.{Result, Ok, Err, codes}
use Rattle.halo_records.specs.Records.{records_of}
use Rattle.halo_interest.specs.Rates.{rate_of}
use Rattle.halo_interest.specs.declared.rate.Rate.{Rate}
use Rattle.halo_table.specs.DecrementTable.{TableFile}
use Rattle.halo_table.specs.Grouping.{tables_of}
use Rattle.halo_table.specs.Sound.{IsSound}
use Rattle.halo_table.specs.declared.held.TheConstants.{LONGEST_FILE}
use Rattle.halo_table.proofs.Deciding.{dec_bytes, dec_number}
use Rattle.halo_table.proofs.FirstFault.{fault_or_none}
use Rattle.halo_table.proofs.Soundness.{sound_of_fine}
use Rattle.halo_contract.specs.PlainContract.{PlainContract}
use Rattle.halo_contract.specs.ValidContract.{IsValidContract}
use Rattle.halo_model.specs.Columns.{column_denominator, end_age}
use Rattle.halo_model.proofs.Positive.{some-interest}
use Rattle.halo_columns.specs.Entries.{columns_of}
use Rattle.halo_columns.proofs.SomeColumns.{columns-exist}
use Rattle.halo_parse.proofs.ValidContracts.{contracts_are_valid}
use Rattle.halo_parse.proofs.laws.FileChoices.{contract_or_fault}
use Rattle.halo_parse.specs.WordReading.{ReadsFraction}
use Rattle.halo_lines.proofs.ContractReports.{contracts-have-reports}
use Rattle.halo_report.specs.ExplainText.{explain_text}
use Rattle.halo_report.specs.FormText.{form_text}
use Rattle.halo_report.specs.ValueText.{report_text}
use Rattle.halo_report.specs.ColumnsText.{columns_text}
use Rattle.halo_report.specs.SampleText.{sample_text}
use Rattle.halo_sample.specs.Sample.{sample_contract, sample_tables}
use Rattle.halo_text.specs.Number.{number}
use Rattle.halo_spell.specs.ContractText.{contract_text}
use Rattle.halo_value.proofs.SomeForms.{contracts-have-forms}
use Rattle.halo_value.proofs.SomeParts.{contracts-have-explanations}
use Rattle.halo_top.specs.Arguments.{HasName, IsArgumentFault, ReadsInterest}
use Rattle.halo_top.specs.Command.{Asks, IsCommand, Request, of_columns, of_contract, of_sample, task_word}
use Rattle.halo_top.specs.Input.{AreTables, HasContract}
use Rattle.halo_top.specs.Laws.{AnswerExists}
use Rattle.halo_top.specs.Refusal.{line_of, status_of}
use Rattle.halo_top.specs.Sample.{HasNoSampleFault, IsSampleFault, TellsSample}
use Rattle.halo_top.proofs.Samples.{no-sample-fault, samples-have-no-fault}
use Rattle.halo_top.specs.declared.sample.TheConstants.{GREATEST_SAMPLE}
use Rattle.halo_top.specs.Verdict.{AreBothRead, AreRead, CallsFor, IsAnswer, IsRead, IsTextOf, Refuses, Shelved}
use Rattle.halo_top.specs.declared.refusal.ArgumentKind.{ArgumentKind}
use Rattle.halo_top.specs.declared.refusal.ArgumentKind.TheVariants as argument
use Rattle.halo_top.specs.declared.command.Task.{Task}
use Rattle.halo_top.specs.declared.command.Task.TheVariants as task
use Rattle.halo_top.specs.declared.refusal.InputFile.TheVariants as file
use Rattle.halo_top.specs.declared.refusal.Refusal.{Refusal}
use Rattle.halo_top.specs.declared.refusal.Refusal.TheVariants as refusal
use Rattle.halo_top.specs.declared.refusal.TheConstants.{LONGEST_CONTRACT}
use Rattle.halo_top.specs.declared.status.TheConstants.{FINE, USAGE}
use Rattle.halo_top.proofs.Arguments.{a-reading, a-table-or-none}
use Rattle.halo_top.proofs.Calls.{refused}

-- what files call for: an answer, or a refusal
data Calls (request : Request) (shelf : Shelved) : Type 0 where
  answers : (text : List ℕ) → IsAnswer request shelf text → Calls request shelf
  refuses : (r : Refusal) → Refuses request shelf r → Calls request shelf

-- each contract that can be valued has a text
text-exists : (t : Task) (tables : TableFile) (contract : PlainContract) → IsSound tables
    → IsValidContract tables contract
    → (text : List ℕ) × IsTextOf t tables contract text
text-exists task.Value tables contract sound valid =
    let report = contracts-have-reports tables sound contract valid in
    (report_text report.0, (report.0, report.1, refl))
text-exists task.Check tables contract sound valid = (contract_text tables contract, refl)
text-exists task.Compile tables contract sound valid =
    let forms = contracts-have-forms tables contract (2 ^ length contract.lives) in
    (form_text tables contract forms.0, (forms.0, forms.1, refl))
text-exists task.Explain tables contract sound valid =
    let told = contracts-have-explanations tables sound contract valid in
    (explain_text tables contract told.0, (told.0, told.1, refl))

module _ (t : Task) (shelf : Shelved) (tables contract : List ℕ)
    (tables_read : IsRead shelf tables) (in_order : AreTables tables_read.all) (read : IsRead shelf contract) where
  abbrev file_tables : TableFile
  file_tables = tables_of (records_of tables_read.all)

  of-contract : (plain : PlainContract) → HasContract file_tables read.all plain
      → Calls (of_contract t tables contract) shelf
  of-contract plain has =
      let text = text-exists t file_tables plain (sound_of_fine _ in_order.fine)
      (contracts_are_valid file_tables read.all plain has.writes) in
      answers text.0 (record {
        tables = file_tables;
        contract = plain;
        written = record {
          tables_in = rw tables_read.told (record { in_order = in_order; tables_are = refl });
          contract_in = rw read.told has;
        };
        text_is = text.1;
      })

  of-contract-file : Calls (of_contract t tables contract) shelf
  of-contract-file = elim (dec_le (length read.all) LONGEST_CONTRACT) [
    | no long ↦ refuses (refusal.TooLong file.Contract)
        (rw tables_read.told (in_order, rw read.told (omega (arith, long))))
    | yes short ↦ elim (contract_or_fault file_tables read.all) [
      | inl writes ↦ of-contract writes.0 (record { short = short; writes = writes.1 })
      | inr fault ↦ refuses (refusal.Contract (record { line = fault.0; kind = fault.1 }))
          (rw (tables_read.told, read.told) (in_order, record { short = short; first = fault.2 }))
    ]
  ]

files-call : (t : Task) (shelf : Shelved) (tables contract : List ℕ) → AreBothRead shelf tables contract
    → Calls (of_contract t tables contract) shelf
files-call t shelf tables contract read = elim (dec_le (length read.tables_read.all) LONGEST_FILE) [
  | no long ↦ refuses (refusal.TooLong file.Tables) (rw read.tables_read.told (omega (arith, long)))
  | yes short ↦ elim (fault_or_none (records_of read.tables_read.all)) [
    | inl fine ↦
        let in_order : AreTables read.tables_read.all = record { short = short; fine = fine } in
        of-contract-file t shelf tables contract read.tables_read in_order (read.contract_read in_order)
    | inr fault ↦ refuses (refusal.Table (record { row = fault.0; kind = fault.1 }))
        (rw read.tables_read.told (record { short = short; first = fault.2 }))
  ]
]

none-of-these : (name : List ℕ) (t : Task) → (name ≡ task_word task.Value → ⊥) → (name ≡ task_word task.Check → ⊥)
    → (name ≡ task_word task.Compile → ⊥) → (name ≡ task_word task.Explain → ⊥) → name ≡ task_word t → ⊥
none-of-these name task.Value not_value not_check not_compile not_explain is = not_value is
none-of-these name task.Check not_value not_check not_compile not_explain is = not_check is
none-of-these name task.Compile not_value not_check not_compile not_explain is = not_compile is
none-of-these name task.Explain not_value not_check not_compile not_explain is = not_explain is

-- the task that a word names, or none
a-task-or-none : (word : List ℕ) → ((t : Task) × (word ≡ task_word t)) ⊎ ((t : Task) → word ≡ task_word t → ⊥)
a-task-or-none word = elim (dec_bytes word (task_word task.Value)) [
  | yes is ↦ inl (task.Value, is)
  | no not_value ↦ elim (dec_bytes word (task_word task.Check)) [
    | yes is ↦ inl (task.Check, is)
    | no not_check ↦ elim (dec_bytes word (task_word task.Compile)) [
      | yes is ↦ inl (task.Compile, is)
      | no not_compile ↦ elim (dec_bytes word (task_word task.Explain)) [
        | yes is ↦ inl (task.Explain, is)
        | no not_explain ↦ inr (λ t. none-of-these word t not_value not_check not_compile not_explain)
      ]
    ]
  ]
]

-- whether words are a command can be told
no-task : (word tables contract : List ℕ) → ((t : Task) → word ≡ task_word t → ⊥)
    → IsCommand (word ∷ tables ∷ contract ∷ []) → ⊥
no-task word tables contract none (of_contract t a b, e) = none t (cc e)
no-task word tables contract none (of_columns a b c, e) = absurd (omega (arith, ap length e))
no-task word tables contract none (of_sample a, e) = absurd (omega (arith, ap length e))

no-columns : (word tables name fraction : List ℕ) → (word ≡ codes "columns" → ⊥)
    → IsCommand (word ∷ tables ∷ name ∷ fraction ∷ []) → ⊥
no-columns word tables name fraction none (of_contract t a b, e) = absurd (omega (arith, ap length e))
no-columns word tables name fraction none (of_columns a b c, e) = none (cc e)
no-columns word tables name fraction none (of_sample a, e) = absurd (omega (arith, ap length e))

no-sample : (word number : List ℕ) → (word ≡ codes "sample" → ⊥) → IsCommand (word ∷ number ∷ []) → ⊥
no-sample word number none (of_contract t a b, e) = absurd (omega (arith, ap length e))
no-sample word number none (of_columns a b c, e) = absurd (omega (arith, ap length e))
no-sample word number none (of_sample a, e) = none (cc e)

no-number : (words : List (List ℕ)) → (length words ≡ 2 → ⊥) → (length words ≡ 3 → ⊥) → (length words ≡ 4 → ⊥)
    → IsCommand words → ⊥
no-number words not_two not_three not_four (of_contract t a b, e) = not_three (ap length e)
no-number words not_two not_three not_four (of_columns a b c, e) = not_four (ap length e)
no-number words not_two not_three not_four (of_sample a, e) = not_two (ap length e)

dec_command : (words : List (List ℕ)) → Dec (IsCommand words)
dec_command [] = no (no-number [] (λ e. omega (arith, e)) (λ e. omega (arith, e)) (λ e. omega (arith, e)))
dec_command (a ∷ []) =
    no (no-number (a ∷ []) (λ e. omega (arith, e)) (λ e. omega (arith, e)) (λ e. omega (arith, e)))
dec_command (a ∷ b ∷ []) = elim (dec_bytes a (codes "sample")) [
  | yes is ↦ yes (of_sample b, ap (λ (word : List ℕ). word ∷ b ∷ []) is)
  | no none ↦ no (no-sample a b none)
]
dec_command (a ∷ b ∷ c ∷ []) = elim (a-task-or-none a) [
  | inl (t, is) ↦ yes (of_contract t b c, ap (λ (word : List ℕ). word ∷ b ∷ c ∷ []) is)
  | inr none ↦ no (no-task a b c none)
]
dec_command (a ∷ b ∷ c ∷ d ∷ []) = elim (dec_bytes a (codes "columns")) [
  | yes is ↦ yes (of_columns b c d, ap (λ (word : List ℕ). word ∷ b ∷ c ∷ d ∷ []) is)
  | no none ↦ no (no-columns a b c d none)
]
dec_command (a ∷ b ∷ c ∷ d ∷ e ∷ rest) =
    no (no-number (a ∷ b ∷ c ∷ d ∷ e ∷ rest) (λ e. omega (arith, e)) (λ e. omega (arith, e)) (λ e. omega (arith, e)))

-- an interest is something
some-part : (fraction : List ℕ) (interest : List Rate) → ReadsFraction fraction (Ok interest)
    → (k : ℕ) → 1 ≤ (rate_of interest k).p + (rate_of interest k).q
some-part fraction interest (p, q, within, some, is) k = rw is (omega (arith, some))

module _ (shelf : Shelved) (tables name fraction : List ℕ) (read : IsRead shelf tables)
    (in_order : AreTables read.all) where
  abbrev the_tables : TableFile
  the_tables = tables_of (records_of read.all)

  mistake : (k : ArgumentKind) → IsArgumentFault the_tables name fraction k
      → Calls (of_columns tables name fraction) shelf
  mistake k wrong = refuses (refusal.Argument k)
      (the_tables, rw read.told (record { in_order = in_order; tables_are = refl }), wrong)

  of-table : (interest : List Rate) → ReadsFraction fraction (Ok interest) → (table : ℕ)
      → HasName the_tables table name → Calls (of_columns tables name fraction) shelf
  unfolding column_denominator
  of-table interest reads table named =
      let p = λ (k : ℕ). (rate_of interest k).p in
      let q = λ (k : ℕ). (rate_of interest k).q in
      let c = columns_of p q the_tables table in
      let some = some-interest p q (end_age c - 0) 0 (λ k from below. some-part fraction interest reads k) in
      let set = columns-exist c (sound_of_fine _ in_order.fine) named.table_in (omega (arith, some)) in
      answers (columns_text the_tables table set.0) (record {
        tables = the_tables;
        tables_in = rw read.told (record { in_order = in_order; tables_are = refl });
        told = record {
          table = table;
          interest = interest;
          named = named;
          reads = reads;
          text_is = (set.0, set.1, refl);
        };
      })

  of-fraction : (r : Result (List Rate) ArgumentKind) → ReadsInterest fraction r
      → Calls (of_columns tables name fraction) shelf
  of-fraction (Ok interest) reads = elim (a-table-or-none the_tables name) [
    | inl (table, named) ↦ of-table interest reads table named
    | inr none ↦ mistake argument.NoTable (interest, reads, none)
  ]
  of-fraction (Err argument.Syntax) h = mistake argument.Syntax h
  of-fraction (Err argument.Magnitude) h = mistake argument.Magnitude h
  of-fraction (Err argument.Zero) h = mistake argument.Zero h
  of-fraction (Err argument.NoTable) h = absurd h

arguments-call : (shelf : Shelved) (tables name fraction : List ℕ) → IsRead shelf tables
    → Calls (of_columns tables name fraction) shelf
arguments-call shelf tables name fraction read = elim (dec_le (length read.all) LONGEST_FILE) [
  | no long ↦ refuses (refusal.TooLong file.Tables) (rw read.told (omega (arith, long)))
  | yes short ↦ elim (fault_or_none (records_of read.all)) [
    | inl fine ↦
        let reading = a-reading fraction in
        of-fraction shelf tables name fraction read (record { short = short; fine = fine }) reading.0 reading.1
    | inr fault ↦ refuses (refusal.Table (record { row = fault.0; kind = fault.1 }))
        (rw read.told (record { short = short; first = fault.2 }))
  ]
]

-- the number of a sample can be told, or what is wrong with it
a-sample-number : (word : List ℕ) → HasNoSampleFault word ⊎ ((k : ArgumentKind) × IsSampleFault word k)
a-sample-number word = elim (dec_number word) [
  | no other ↦ inr (argument.Syntax, other)
  | yes is ↦ elim (dec_le (number word) GREATEST_SAMPLE) [
    | no above ↦ inr (argument.Magnitude, (is, omega (arith, above)))
    | yes within ↦ inl (no-sample-fault word is within)
  ]
]

-- each sample has a summary
a-summary : (n : ℕ) → (text : List ℕ) × TellsSample n text
a-summary n =
    let sample = samples-have-no-fault n in
    let tables = sample.0 in
    let contract = sample.1 in
    let holds = sample.2 in
    let fine = holds.tables_in.in_order.fine in
    let sound = subst IsSound (sym holds.tables_in.tables_are) (sound_of_fine _ fine) in
    let valid = contracts_are_valid tables (sample_contract n) contract holds.contract_in.writes in
    let report = contracts-have-reports tables sound contract valid in (
      sample_text n (length (sample_tables n)) (length (sample_contract n)) report.0,
      record {
        tables = tables;
        contract = contract;
        report = report.0;
        holds = holds;
        encloses = report.1;
        text_is = refl;
      },
    )

number-calls : (shelf : Shelved) (word : List ℕ) → Calls (of_sample word) shelf
number-calls shelf word = elim (a-sample-number word) [
  | inl fine ↦ let summary = a-summary (number word) in
      answers summary.0 (record { fine = fine; told = summary.1 })
  | inr (k, fault) ↦ refuses (refusal.Argument k) fault
]

request-calls : (request : Request) (shelf : Shelved) → AreRead request shelf → Calls request shelf
request-calls (of_contract t tables contract) shelf read = files-call t shelf tables contract read
request-calls (of_columns tables name fraction) shelf read = arguments-call shelf tables name fraction read
request-calls (of_sample word) shelf read = number-calls shelf word

module _ (words : List (List ℕ)) (shelf : Shelved) (request : Request) (asks : Asks words request) where
  called : Calls request shelf → (status : ℕ) × (text : List ℕ) × CallsFor words shelf status text
  called (answers text answer) = (FINE, text, inl (refl, (request, asks, answer)))
  called (refuses r h) = (status_of r, line_of r, inr (r, refused words shelf request asks r h, refl, refl))

pub answer-exists : AnswerExists
answer-exists words shelf reads = elim (dec_command words) [
  | yes command ↦ called words shelf command.0 command.1 (request-calls command.0 shelf (reads command.0 command.1))
  | no none ↦ (USAGE, line_of refusal.Usage, inr (refusal.Usage, none, refl, refl))
]
