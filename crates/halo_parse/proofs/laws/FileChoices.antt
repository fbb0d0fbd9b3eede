-- A file writes a contract, or it has a first fault.
use Rattle.std.proofs.Common.{◌≡◌, ◌+◌, ◌≤◌, ◌⊎◌, ℕ, List, [], ◌∷◌, arith, false, inl, inr, length, refl, take}
use Rattle.std.proofs.Math.Decide.{map_dec, dec_le, dec_lt}
use Rattle.std.proofs.lemmas.Bool.{cases_Bool}
use Rattle.halo_symbol.specs.Characters.{round_close, round_open}
use Rattle.halo_table.specs.DecrementTable.{TableFile}
use Rattle.halo_syntax.specs.Depth.{IsShallow, count_of}
use Rattle.halo_check.specs.Draft.{Draft, contract_made, empty_draft, with_line}
use Rattle.halo_parse.specs.Faults.{FirstFaultOf, HasFault, IsFine, IsReadable, IsWhole, MakesDraft}
use Rattle.halo_syntax.specs.FileLines.{IsSilent, is_silent, lines_of, words_of}
use Rattle.halo_parse.specs.FileLaws.{ContractOrFault}
use Rattle.halo_syntax.specs.Line.{Line}
use Rattle.halo_check.specs.declared.fault.ContractKind.{ContractKind}
use Rattle.halo_check.specs.declared.fault.ContractKind.TheVariants as kind
use Rattle.halo_check.proofs.laws.Deciding.{dec_each, dec_some, dec_three}
use Rattle.halo_check.proofs.laws.DecidingChecks.{passes_or_fails}
use Rattle.halo_syntax.proofs.lines.LineChoices.{line_choice}

-- brackets that open too far, or not
dec_shallow : (line : List ℕ) → Dec (IsShallow line)
dec_shallow line = map_dec (λ each n within. each n (omega arith)) (λ shallow n below. shallow n (omega arith))
    (dec_each (λ n. count_of round_open (take n line) ≤ count_of round_close (take n line) + 16)
    (λ n. dec_le (count_of round_open (take n line)) (count_of round_close (take n line) + 16)) (length line + 1))

-- a draft that is a contract, or not
dec_whole : (d : Draft) → Dec (IsWhole d)
dec_whole d =
    map_dec (λ h. record { interest = h.0; life = h.1; pay = h.2 }) (λ whole. (whole.interest, whole.life, whole.pay))
    (dec_three (dec_some d.interest) (dec_lt 0 (length d.lives)) (dec_lt 0 (length d.pays)))

-- a text that is one line, or has a fault
abbrev SpokenChoice : TableFile → Draft → List ℕ → Type 0
SpokenChoice tables d text = ((l : Line) × IsFine tables d text l) ⊎ ((k : ContractKind) × HasFault tables d text k)

-- a text behind those that have made a draft
module _ (tables : TableFile) (d : Draft) (text : List ℕ) where
  readable_choice : IsReadable text → SpokenChoice tables d text
  readable_choice readable = elim (line_choice (words_of text)) [
    | inr none ↦ inr (kind.Syntax, inr (inl (readable, none, refl)))
    | inl (l, spells) ↦ elim (passes_or_fails tables d l) [
      | inl passes ↦ inl (l, record { readable = readable; spells = spells; passes = passes })
      | inr (k, first) ↦ inr (k, inr (inr (readable, (l, spells, first))))
    ]
  ]

  spoken_choice : is_silent (words_of text) ≡ false → SpokenChoice tables d text
  spoken_choice speaks = elim (dec_shallow text) [
    | yes shallow ↦ readable_choice (record { speaks = speaks; shallow = shallow })
    | no deep ↦ inr (kind.Magnitude, inl (speaks, deep, refl))
  ]

  text_choice : IsSilent text ⊎ SpokenChoice tables d text
  text_choice =
      elim (cases_Bool (is_silent (words_of text))) [
        | inl silent ↦ inl silent
        | inr speaks ↦ inr (spoken_choice speaks)
      ]

-- some lines make a draft, or have a first fault
lines_choice : (tables : TableFile) (d : Draft) (count : ℕ) (texts : List (List ℕ))
    → ((final : Draft) × MakesDraft tables d texts final)
    ⊎ ((line : ℕ) × (k : ContractKind) × FirstFaultOf tables d count texts line k)
lines_choice tables d count [] = inl (d, refl)
lines_choice tables d count (text ∷ texts) = elim (text_choice tables d text) [
  | inl silent ↦ elim (lines_choice tables d (count + 1) texts) [
    | inl (final, makes) ↦ inl (final, inl (silent, makes))
    | inr (line, k, later) ↦ inr (line, k, inr (inl (silent, later)))
  ]
  | inr (inr (k, fault)) ↦ inr (count, k, inl (fault, refl))
  | inr (inl (l, fine)) ↦ elim (lines_choice tables (with_line tables d l) (count + 1) texts) [
    | inl (final, makes) ↦ inl (final, inr (l, fine, makes))
    | inr (line, k, later) ↦ inr (line, k, inr (inr (l, fine, later)))
  ]
]

pub contract_or_fault : ContractOrFault
contract_or_fault tables bytes = elim (lines_choice tables empty_draft 1 (lines_of bytes)) [
  | inr (line, k, fault) ↦ inr (line, k, inl fault)
  | inl (final, makes) ↦ elim (dec_whole final) [
    | yes whole ↦ inl (contract_made final, record { draft = final; lines = makes; whole = whole; made = refl })
    | no lacks ↦ inr (
      length (lines_of bytes) + 1,
      kind.Missing,
      inr (record {
        draft = final;
        lines = makes;
        not_whole = lacks;
        number_is = refl;
        kind_is = refl;
      }),
    )
  ]
]
