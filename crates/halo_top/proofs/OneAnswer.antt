-- Where the files are told as far as they are needed, words and files call for one answer.
use Rattle.std.proofs.Common.{◌≡◌, ◌⊎◌, ℕ, ◌<◌, arith, refl, subst, sym, ap, ◌∙◌, inl, inr}
use Rattle.std.proofs.Common.{List, [], ◌∷◌, length, Option, None, Some}
use Rattle.std.specs.Prelude.{Ok}
use Rattle.halo_records.specs.Records.{records_of}
use Rattle.halo_table.specs.DecrementTable.{TableFile}
use Rattle.halo_table.specs.Grouping.{tables_of}
use Rattle.halo_table.specs.Sound.{IsSound}
use Rattle.halo_table.specs.declared.fault.TableFault.{TableFault}
use Rattle.halo_table.specs.declared.fault.TableKind.{TableKind}
use Rattle.halo_table.proofs.FirstFault.{fine_or_fault, first_is_one}
use Rattle.halo_table.proofs.Soundness.{sound_of_fine}
use Rattle.halo_contract.specs.PlainContract.{PlainContract}
use Rattle.halo_parse.specs.declared.fault.ContractFault.{ContractFault}
use Rattle.halo_check.specs.declared.fault.ContractKind.{ContractKind}
use Rattle.halo_check.specs.declared.fault.ContractKind.TheVariants as wrong
use Rattle.halo_parse.proofs.laws.OneFault.{contract_is_one, first_fault_is_one, no_fault_is_first}
use Rattle.halo_top.specs.Arguments.{IsArgumentFault, TellsColumns, TellsNamed}
use Rattle.halo_top.specs.Command.{Asks, Request, of_columns, of_contract, of_sample, request_words, task_word}
use Rattle.halo_top.specs.Input.{AreTables, HasContract, HasContractFault, HasTableFault, limit_of}
use Rattle.halo_top.specs.Laws.{AnswerIsOne, AreAlike, AreOfOneTable, AreOneAnswer}
use Rattle.halo_top.specs.Refusal.{argument_status, contract_status, line_of, status_of}
use Rattle.halo_top.specs.Verdict.{Answered, AreBothRead, AreRead, IsAnswer, IsColumnsAnswer, IsContractAnswer}
use Rattle.halo_top.specs.Verdict.{IsRead, IsTextOf, ReadsAll, Refused, Refuses, RefusesColumns, RefusesContract}
use Rattle.halo_top.specs.Verdict.{RefusesSample, Shelved}
use Rattle.halo_top.specs.Sample.{IsSampleFault}
use Rattle.halo_top.specs.declared.refusal.ArgumentKind.{ArgumentKind}
use Rattle.halo_top.specs.declared.refusal.ArgumentKind.TheVariants as argument
use Rattle.halo_top.specs.declared.command.Task.{Task}
use Rattle.halo_top.specs.declared.command.Task.TheVariants as task
use Rattle.halo_top.specs.declared.refusal.InputFile.TheVariants as file
use Rattle.halo_top.specs.declared.refusal.Refusal.{Refusal}
use Rattle.halo_top.specs.declared.refusal.Refusal.TheVariants as refusal
use Rattle.halo_top.specs.declared.status.TheConstants.{FINE, NO_MEMORY, TABLES_FAULT}
use Rattle.halo_top.proofs.Arguments.{one-argument-fault, one-reading, one-table, told-or-fault}

-- what the bytes of a contract file call for: a refusal, or an answer (None), where they write a contract
data JudgesContract (tables : TableFile) (bytes : List ℕ) : Option Refusal → Type 0 where
  too_long : limit_of file.Contract < length bytes
      → JudgesContract tables bytes (Some (refusal.TooLong file.Contract))
  faulty : (fault : ContractFault) → HasContractFault tables bytes fault
      → JudgesContract tables bytes (Some (refusal.Contract fault))
  served : (contract : PlainContract) → HasContract tables bytes contract → JudgesContract tables bytes None

-- what the arguments of `columns` call for: a refusal, or an answer (None), where they name a table and an
-- interest
data JudgesArguments (tables : TableFile) (name fraction : List ℕ) : Option Refusal → Type 0 where
  mistaken : (k : ArgumentKind) → IsArgumentFault tables name fraction k
      → JudgesArguments tables name fraction (Some (refusal.Argument k))
  told : (text : List ℕ) → TellsNamed tables name fraction text → JudgesArguments tables name fraction None

-- faults of a contract file, and of a tables file, by their parts
abbrev fault-of : ℕ → ContractKind → ContractFault
fault-of line k = record { line = line; kind = k }

abbrev table-fault-of : ℕ → TableKind → TableFault
table-fault-of row k = record { row = row; kind = k }

module _ (tables : TableFile) (bytes : List ℕ) where
  one-fault : (a b : ContractFault) → HasContractFault tables bytes a → HasContractFault tables bytes b → a ≡ b
  one-fault a b is also =
      let one = first_fault_is_one tables bytes a.line b.line a.kind b.kind is.first also.first in
      let same_line = ap (λ (line : ℕ). fault-of line a.kind) one.0 in
      let same_kind = ap (λ (kind : ContractKind). fault-of b.line kind) one.1 in
      same_line ∙ same_kind

  no-fault : {R : Type 0} (contract : PlainContract) (fault : ContractFault)
      → HasContract tables bytes contract → HasContractFault tables bytes fault → R
  no-fault contract fault has is =
      absurd (no_fault_is_first tables bytes contract fault.line fault.kind has.writes is.first)

  one-judgement-of-contract : (m n : Option Refusal)
      → JudgesContract tables bytes m → JudgesContract tables bytes n → m ≡ n
  one-judgement-of-contract m n (too_long a) (too_long b) = refl
  one-judgement-of-contract m n (too_long a) (faulty fault b) = absurd (omega (arith, a, b.short))
  one-judgement-of-contract m n (too_long a) (served c has) = absurd (omega (arith, a, has.short))
  one-judgement-of-contract m n (faulty fault a) (too_long b) = absurd (omega (arith, b, a.short))
  one-judgement-of-contract m n (faulty fault a) (faulty other b) =
      ap (λ f. Some (refusal.Contract f)) (one-fault fault other a b)
  one-judgement-of-contract m n (faulty fault a) (served c has) = no-fault c fault has a
  one-judgement-of-contract m n (served c has) (too_long b) = absurd (omega (arith, b, has.short))
  one-judgement-of-contract m n (served c has) (faulty fault b) = no-fault c fault has b
  one-judgement-of-contract m n (served c has) (served d also) = refl

module _ (tables : TableFile) (name fraction : List ℕ) where
  one-judgement-of-arguments : (m n : Option Refusal) → JudgesArguments tables name fraction m
      → JudgesArguments tables name fraction n → m ≡ n
  one-judgement-of-arguments m n (mistaken k a) (mistaken l b) =
      ap (λ x. Some (refusal.Argument x)) (one-argument-fault tables name fraction k l a b)
  one-judgement-of-arguments m n (mistaken k a) (told text b) = told-or-fault tables name fraction text k b a
  one-judgement-of-arguments m n (told text a) (mistaken k b) = told-or-fault tables name fraction text k a b
  one-judgement-of-arguments m n (told text a) (told other b) = refl

-- what is called for behind tables in order
module _ (tables_bytes : List ℕ) (Judged : Option Refusal → Type 0) where
  -- what the bytes of the tables file, and then what is behind them, call for
  abbrev Judges : Option Refusal → Type 0
  Judges m =
      ((m ≡ Some (refusal.TooLong file.Tables)) × (limit_of file.Tables < length tables_bytes))
      ⊎ ((fault : TableFault) × (m ≡ Some (refusal.Table fault)) × HasTableFault tables_bytes fault)
      ⊎ (AreTables tables_bytes × Judged m)

  no-table-fault : {R : Type 0} (fault : TableFault) → AreTables tables_bytes → HasTableFault tables_bytes fault → R
  no-table-fault fault tables is = absurd (fine_or_fault _ fault.row fault.kind tables.fine is.first)

  one-table-fault : (a b : TableFault) → HasTableFault tables_bytes a → HasTableFault tables_bytes b → a ≡ b
  one-table-fault a b is also =
      let one = first_is_one (records_of tables_bytes) a.row b.row a.kind b.kind is.first also.first in
      let same_row = ap (λ (row : ℕ). table-fault-of row a.kind) one.0 in
      let same_kind = ap (λ (kind : TableKind). table-fault-of b.row kind) one.1 in
      same_row ∙ same_kind

  one-judgement : ((m n : Option Refusal) → Judged m → Judged n → m ≡ n)
      → (m n : Option Refusal) → Judges m → Judges n → m ≡ n
  one-judgement one m n (inl a) (inl b) = a.0 ∙ sym b.0
  one-judgement one m n (inl a) (inr (inl b)) = absurd (omega (arith, a.1, b.2.short))
  one-judgement one m n (inl a) (inr (inr b)) = absurd (omega (arith, a.1, b.0.short))
  one-judgement one m n (inr (inl a)) (inl b) = absurd (omega (arith, b.1, a.2.short))
  one-judgement one m n (inr (inl a)) (inr (inl b)) =
      a.1 ∙ ap (λ f. Some (refusal.Table f)) (one-table-fault a.0 b.0 a.2 b.2) ∙ sym b.1
  one-judgement one m n (inr (inl a)) (inr (inr b)) = no-table-fault a.0 b.0 a.2
  one-judgement one m n (inr (inr a)) (inl b) = absurd (omega (arith, b.1, a.0.short))
  one-judgement one m n (inr (inr a)) (inr (inl b)) = no-table-fault b.0 a.0 b.2
  one-judgement one m n (inr (inr (tables, a))) (inr (inr (_, b))) = one m n a b

module _ (shelf : Shelved) (tables_bytes contract : List ℕ) where
  -- what the bytes of the contract file call for
  abbrev JudgesFile : Option Refusal → Type 0
  JudgesFile m = (bytes : List ℕ) × (shelf.file contract ≡ Some bytes)
      × JudgesContract (tables_of (records_of tables_bytes)) bytes m

  one-judgement-of-file : (m n : Option Refusal) → JudgesFile m → JudgesFile n → m ≡ n
  one-judgement-of-file m n a b =
      let same : b.0 ≡ a.0 = cc (a.1, b.1) in
      one-judgement-of-contract (tables_of (records_of tables_bytes)) a.0 m n a.2
      (subst (λ bytes. JudgesContract (tables_of (records_of tables_bytes)) bytes n) same b.2)

module _ (t : Task) (shelf : Shelved) (tables contract : List ℕ) (read : AreBothRead shelf tables contract) where
  abbrev JudgesBoth : Option Refusal → Type 0
  JudgesBoth = Judges read.tables_read.all (JudgesFile shelf read.tables_read.all contract)

  one-of-both : (m n : Option Refusal) → JudgesBoth m → JudgesBoth n → m ≡ n
  one-of-both = one-judgement read.tables_read.all (JudgesFile shelf read.tables_read.all contract)
      (one-judgement-of-file shelf read.tables_read.all contract)

  answer-judged : (text : List ℕ) → IsContractAnswer t shelf tables contract text → JudgesBoth None
  answer-judged text answer =
      let has = rw read.tables_read.told at answer.written.tables_in in
      let file = read.contract_read has.in_order in
      let contract_has = rw file.told at answer.written.contract_in in
      let of_tables = subst (λ f. HasContract f file.all answer.contract) has.tables_are contract_has in
      inr (inr (has.in_order, (file.all, file.told, served answer.contract of_tables)))

  refusal-judged : (r : Refusal) → RefusesContract shelf tables contract r → JudgesBoth (Some r)
  refusal-judged refusal.Usage h = absurd h
  refusal-judged (refusal.Argument fault) h = absurd h
  refusal-judged (refusal.Read file.Tables) h = absurd (read.tables_read.sure h)
  refusal-judged (refusal.Read file.Contract) h =
      absurd ((read.contract_read (rw read.tables_read.told at h.0)).sure h.1)
  refusal-judged (refusal.TooLong file.Tables) h = inl (refl, rw read.tables_read.told at h)
  refusal-judged (refusal.Table fault) h = inr (inl (fault, refl, rw read.tables_read.told at h))
  refusal-judged (refusal.TooLong file.Contract) h =
      let tables = rw read.tables_read.told at h.0 in
      let file = read.contract_read tables in
      inr (inr (tables, (file.all, file.told, too_long (rw file.told at h.1))))
  refusal-judged (refusal.Contract fault) h =
      let f = rw read.tables_read.told at h in
      let file = read.contract_read f.0 in
      inr (inr (f.0, (file.all, file.told, faulty fault (rw file.told at f.1))))

  one-refusal : (r other : Refusal) → RefusesContract shelf tables contract r
      → RefusesContract shelf tables contract other → r ≡ other
  one-refusal r other h also = cc (one-of-both (Some r) (Some other)
      (refusal-judged r h) (refusal-judged other also))

  answer-or-refusal : {R : Type 0} (text : List ℕ) (r : Refusal)
      → IsContractAnswer t shelf tables contract text → RefusesContract shelf tables contract r → R
  answer-or-refusal text r answer h = cc (one-of-both None (Some r)
      (answer-judged text answer) (refusal-judged r h))

  -- two answers are of one contract
  other-text : (text other : List ℕ)
      → (a : IsContractAnswer t shelf tables contract text) → IsContractAnswer t shelf tables contract other
      → IsTextOf t a.tables a.contract other
  other-text text other a b =
      let has = rw read.tables_read.told at a.written.tables_in in
      let also = rw read.tables_read.told at b.written.tables_in in
      let same : b.tables ≡ a.tables = also.tables_are ∙ sym has.tables_are in
      let file = read.contract_read has.in_order in
      let writes = rw file.told at a.written.contract_in in
      let writes_too = rw file.told at b.written.contract_in in
      let also_of = subst (λ f. HasContract f file.all b.contract) same writes_too in
      let one = contract_is_one a.tables file.all b.contract a.contract also_of.writes writes.writes in
      subst (λ c. IsTextOf t a.tables c other) one (subst (λ f. IsTextOf t f b.contract other) same b.text_is)

module _ (shelf : Shelved) (tables name fraction : List ℕ) (read : IsRead shelf tables) where
  abbrev JudgesColumns : Option Refusal → Type 0
  JudgesColumns = Judges read.all (JudgesArguments (tables_of (records_of read.all)) name fraction)

  one-of-columns : (m n : Option Refusal) → JudgesColumns m → JudgesColumns n → m ≡ n
  one-of-columns = one-judgement read.all (JudgesArguments (tables_of (records_of read.all)) name fraction)
      (one-judgement-of-arguments (tables_of (records_of read.all)) name fraction)

  columns-judged : (text : List ℕ) → IsColumnsAnswer shelf tables name fraction text → JudgesColumns None
  columns-judged text answer =
      let has = rw read.told at answer.tables_in in
      inr (inr (has.in_order, told text (subst (λ f. TellsNamed f name fraction text) has.tables_are answer.told)))

  mistake-judged : (r : Refusal) → RefusesColumns shelf tables name fraction r → JudgesColumns (Some r)
  mistake-judged refusal.Usage h = absurd h
  mistake-judged (refusal.Read file.Tables) h = absurd (read.sure h)
  mistake-judged (refusal.Read file.Contract) h = absurd h
  mistake-judged (refusal.TooLong file.Tables) h = inl (refl, rw read.told at h)
  mistake-judged (refusal.TooLong file.Contract) h = absurd h
  mistake-judged (refusal.Table fault) h = inr (inl (fault, refl, rw read.told at h))
  mistake-judged (refusal.Contract fault) h = absurd h
  mistake-judged (refusal.Argument fault) (f, tables_in, wrong) =
      let has = rw read.told at tables_in in
      inr (inr (
        has.in_order,
        mistaken fault
            (subst (λ f. IsArgumentFault f name fraction fault) has.tables_are wrong),
      ))

  -- two answers are of one table at one interest
  of-one-table : (text other : List ℕ) → IsColumnsAnswer shelf tables name fraction text
      → IsColumnsAnswer shelf tables name fraction other → AreOfOneTable shelf tables name fraction text other
  of-one-table text other a b =
      let has = rw read.told at a.tables_in in
      let also = rw read.told at b.tables_in in
      let same : b.tables ≡ a.tables = also.tables_are ∙ sym has.tables_are in
      let told_too = subst (λ f. TellsNamed f name fraction other) same b.told in
      let sound = subst IsSound (sym has.tables_are) (sound_of_fine _ has.in_order.fine) in
      let one : told_too.table ≡ a.told.table
      = one-table a.tables sound name told_too.table a.told.table told_too.named a.told.named in
      let rate : told_too.interest ≡ a.told.interest
      = cc (one-reading fraction (Ok told_too.interest) (Ok a.told.interest) told_too.reads a.told.reads) in
      record {
        tables = a.tables;
        table = a.told.table;
        interest = a.told.interest;
        tables_in = a.tables_in;
        named = a.told.named;
        reads = a.told.reads;
        text_is = a.told.text_is;
        other_is = subst (λ i. TellsColumns a.tables a.told.table i other) rate
            (subst (λ k. TellsColumns a.tables k told_too.interest other) one told_too.text_is);
      }

first_byte : List ℕ → ℕ
first_byte [] = 0
first_byte (byte ∷ rest) = byte

-- the word of a command tells its task
one-task : (t u : Task) → task_word t ≡ task_word u → t ≡ u
unfolding first_byte
one-task task.Value task.Value e = refl
one-task task.Value task.Check e = absurd (omega (arith, ap first_byte e))
one-task task.Check task.Value e = absurd (omega (arith, ap first_byte e))
one-task task.Check task.Check e = refl
one-task task.Compile task.Compile e = refl
one-task task.Compile task.Value e = absurd (omega (arith, ap first_byte e))
one-task task.Value task.Compile e = absurd (omega (arith, ap first_byte e))
one-task task.Compile task.Check e = absurd (omega (arith, ap length e))
one-task task.Check task.Compile e = absurd (omega (arith, ap length e))
one-task task.Explain task.Explain e = refl
one-task task.Explain task.Value e = absurd (omega (arith, ap length e))
one-task task.Value task.Explain e = absurd (omega (arith, ap length e))
one-task task.Explain task.Check e = absurd (omega (arith, ap length e))
one-task task.Check task.Explain e = absurd (omega (arith, ap length e))
one-task task.Explain task.Compile e = absurd (omega (arith, ap first_byte e))
one-task task.Compile task.Explain e = absurd (omega (arith, ap first_byte e))

-- what the words ask for is told by them
one-request : (a b : Request) → request_words a ≡ request_words b → a ≡ b
one-request (of_contract t tables contract) (of_contract u others other) e =
    let word : task_word t ≡ task_word u = cc e in
    let a : tables ≡ others = cc e in
    let b : contract ≡ other = cc e in
    cc (one-task t u word, a, b)
one-request (of_contract t tables contract) (of_columns others name fraction) e = absurd (omega (arith, ap length e))
one-request (of_columns tables name fraction) (of_contract u others other) e = absurd (omega (arith, ap length e))
one-request (of_contract t tables contract) (of_sample number) e = absurd (omega (arith, ap length e))
one-request (of_sample number) (of_contract t tables contract) e = absurd (omega (arith, ap length e))
one-request (of_columns tables name fraction) (of_sample number) e = absurd (omega (arith, ap length e))
one-request (of_sample number) (of_columns tables name fraction) e = absurd (omega (arith, ap length e))
one-request (of_sample number) (of_sample other) e = let a : number ≡ other = cc e in ap of_sample a
one-request (of_columns tables name fraction) (of_columns others other part) e =
    let a : tables ≡ others = cc e in
    let b : name ≡ other = cc e in
    let c : fraction ≡ part = cc e in
    cc (a, b, c)

-- one thing is wrong with the number of a sample
one-sample-fault : (word : List ℕ) (a b : ArgumentKind) → IsSampleFault word a → IsSampleFault word b → a ≡ b
one-sample-fault word argument.Syntax argument.Syntax h also = refl
one-sample-fault word argument.Syntax argument.Magnitude h also = absurd (h also.0)
one-sample-fault word argument.Magnitude argument.Syntax h also = absurd (also h.0)
one-sample-fault word argument.Magnitude argument.Magnitude h also = refl
one-sample-fault word argument.Zero b h also = absurd h
one-sample-fault word argument.NoTable b h also = absurd h
one-sample-fault word a argument.Zero h also = absurd also
one-sample-fault word a argument.NoTable h also = absurd also

-- a refusal of a sample is of its number
of-number : (P : Refusal → Type 0) (word : List ℕ)
    → ((k : ArgumentKind) → IsSampleFault word k → P (refusal.Argument k)) → (r : Refusal) → RefusesSample word r → P r
of-number P word each refusal.Usage h = absurd h
of-number P word each (refusal.Read f) h = absurd h
of-number P word each (refusal.TooLong f) h = absurd h
of-number P word each (refusal.Table fault) h = absurd h
of-number P word each (refusal.Contract fault) h = absurd h
of-number P word each (refusal.Argument k) h = each k h

-- what is asked for has one answer
module _ (shelf : Shelved) where
  one-refusal-of : (request : Request) → AreRead request shelf → (r other : Refusal) → Refuses request shelf r
      → Refuses request shelf other → r ≡ other
  one-refusal-of (of_contract t tables contract) read r other h also =
      one-refusal t shelf tables contract read r other h also
  one-refusal-of (of_columns tables name fraction) read r other h also =
      cc (one-of-columns shelf tables name fraction read (Some r) (Some other)
      (mistake-judged shelf tables name fraction read r h) (mistake-judged shelf tables name fraction read other also))
  one-refusal-of (of_sample word) read r other h also =
      of-number (λ q. q ≡ other) word (λ k is. of-number (λ q. refusal.Argument k ≡ q) word
      (λ l too. ap refusal.Argument (one-sample-fault word k l is too)) other also) r h

  answer-or-refusal-of : {R : Type 0} (request : Request) → AreRead request shelf → (text : List ℕ) (r : Refusal)
      → IsAnswer request shelf text → Refuses request shelf r → R
  answer-or-refusal-of (of_contract t tables contract) read text r answer h =
      answer-or-refusal t shelf tables contract read text r answer h
  answer-or-refusal-of (of_columns tables name fraction) read text r answer h =
      cc (one-of-columns shelf tables name fraction read None (Some r)
      (columns-judged shelf tables name fraction read text answer) (mistake-judged shelf tables name fraction read r h))
  answer-or-refusal-of {R} (of_sample word) read text r answer h =
      of-number (λ q. R) word (λ k is. absurd (answer.fine k is)) r h

  alike : (request : Request) → AreRead request shelf → (text other : List ℕ) → IsAnswer request shelf text
      → IsAnswer request shelf other → AreAlike request shelf text other
  alike (of_contract t tables contract) read text other a b = record {
    tables = a.tables;
    contract = a.contract;
    written = a.written;
    text_is = a.text_is;
    other_is = other-text t shelf tables contract read text other a b;
  }
  alike (of_columns tables name fraction) read text other a b =
      of-one-table shelf tables name fraction read text other a b
  alike (of_sample word) read text other a b = record { text_is = a.told; other_is = b.told }

module _ (words : List (List ℕ)) (shelf : Shelved) (reads : ReadsAll words shelf)
    (request : Request) (asks : Asks words request) where
  -- words ask for one command
  same-request : (P : Request → Type 0) (other : Request) → Asks words other → P other → P request
  same-request P other other_asks h = subst P (one-request other request (sym other_asks ∙ asks)) h

  refuses : (r : Refusal) → Refused words shelf r → Refuses request shelf r
  refuses refusal.Usage h = absurd (h (request, asks))
  refuses (refusal.Read f) (other, asked, h) = same-request (λ q. Refuses q shelf (refusal.Read f)) other asked h
  refuses (refusal.TooLong f) (other, asked, h) = same-request (λ q. Refuses q shelf (refusal.TooLong f)) other asked h
  refuses (refusal.Table fault) (other, asked, h) =
      same-request (λ q. Refuses q shelf (refusal.Table fault)) other asked h
  refuses (refusal.Contract fault) (other, asked, h) =
      same-request (λ q. Refuses q shelf (refusal.Contract fault)) other asked h
  refuses (refusal.Argument fault) (other, asked, h) =
      same-request (λ q. Refuses q shelf (refusal.Argument fault)) other asked h

  -- one answer, and no refusal beside it
  pub one-answer : (text other : List ℕ) → IsAnswer request shelf text → Answered words shelf other
      → AreOneAnswer words shelf text other
  one-answer text other a (q, asked, b) = record {
    request = request;
    asked = asks;
    alike = alike shelf request (reads request asks) text other a
        (same-request (λ q. IsAnswer q shelf other) q asked b);
  }

  pub no-refusal : {R : Type 0} (text : List ℕ) (r : Refusal)
      → IsAnswer request shelf text → Refused words shelf r → R
  no-refusal text r a h = answer-or-refusal-of shelf request (reads request asks) text r a (refuses r h)

  pub one-refusal-of-command : (r other : Refusal) → Refuses request shelf r → Refused words shelf other
      → r ≡ other
  one-refusal-of-command r other h also =
      one-refusal-of shelf request (reads request asks) r other h (refuses other also)

module _ (words : List (List ℕ)) (shelf : Shelved) (reads : ReadsAll words shelf) where
  one-refused : (r other : Refusal) → Refused words shelf r → Refused words shelf other → r ≡ other
  one-refused refusal.Usage refusal.Usage h also = refl
  one-refused refusal.Usage (refusal.Read f) h (q, asked, _) = absurd (h (q, asked))
  one-refused refusal.Usage (refusal.TooLong f) h (q, asked, _) = absurd (h (q, asked))
  one-refused refusal.Usage (refusal.Table fault) h (q, asked, _) = absurd (h (q, asked))
  one-refused refusal.Usage (refusal.Contract fault) h (q, asked, _) = absurd (h (q, asked))
  one-refused refusal.Usage (refusal.Argument fault) h (q, asked, _) = absurd (h (q, asked))
  one-refused (refusal.Read f) other (q, asked, h) also =
      one-refusal-of-command words shelf reads q asked (refusal.Read f) other h also
  one-refused (refusal.TooLong f) other (q, asked, h) also =
      one-refusal-of-command words shelf reads q asked (refusal.TooLong f) other h also
  one-refused (refusal.Table fault) other (q, asked, h) also =
      one-refusal-of-command words shelf reads q asked (refusal.Table fault) other h also
  one-refused (refusal.Contract fault) other (q, asked, h) also =
      one-refusal-of-command words shelf reads q asked (refusal.Contract fault) other h also
  one-refused (refusal.Argument fault) other (q, asked, h) also =
      one-refusal-of-command words shelf reads q asked (refusal.Argument fault) other h also

-- a fault of a contract file has one of three statuses
fault-status : (k : ContractKind) → (TABLES_FAULT < contract_status k) × (contract_status k < NO_MEMORY)
fault-status wrong.Syntax = (omega arith, omega arith)
fault-status wrong.Magnitude = (omega arith, omega arith)
fault-status _ = (omega arith, omega arith)

argument-status : (k : ArgumentKind) → (TABLES_FAULT < argument_status k) × (argument_status k < NO_MEMORY)
argument-status argument.Syntax = (omega arith, omega arith)
argument-status argument.Magnitude = (omega arith, omega arith)
argument-status argument.Zero = (omega arith, omega arith)
argument-status argument.NoTable = (omega arith, omega arith)

-- the status of a refusal lies between that of a whole answer and that of no memory
pub refusal-status : (r : Refusal) → (FINE < status_of r) × (status_of r < NO_MEMORY)
refusal-status refusal.Usage = (omega arith, omega arith)
refusal-status (refusal.Read f) = (omega arith, omega arith)
refusal-status (refusal.TooLong f) = (omega arith, omega arith)
refusal-status (refusal.Table fault) = (omega arith, omega arith)
refusal-status (refusal.Contract fault) =
    let status = fault-status fault.kind in (omega (arith, status.0), status.1)
refusal-status (refusal.Argument k) = let status = argument-status k in (omega (arith, status.0), status.1)

pub answer-is-one : AnswerIsOne
answer-is-one words shelf reads status text other_status other (inl (e, (request, asks, answer))) (inl (f, answered)) =
    record {
      one_status = e ∙ sym f;
      one_line = λ refused. absurd (refused e);
      one_answer = λ _. one-answer words shelf reads request asks text other answer answered;
    }
answer-is-one words shelf reads status text other_status other (inl (e, (request, asks, answer)))
    (inr (r, refused, f, g)) =
    no-refusal words shelf reads request asks text r answer refused
answer-is-one words shelf reads status text other_status other (inr (r, refused, f, g))
    (inl (e, (request, asks, answer))) =
    no-refusal words shelf reads request asks other r answer refused
answer-is-one words shelf reads status text other_status other (inr (r, refused, e, f)) (inr (q, also, g, h)) =
    let one = one-refused words shelf reads r q refused also in
    record {
      one_status = e ∙ ap status_of one ∙ sym g;
      one_line = λ _. f ∙ ap line_of one ∙ sym h;
      one_answer = λ zero. absurd (omega (arith, (refusal-status r).0, e, zero));
    }
