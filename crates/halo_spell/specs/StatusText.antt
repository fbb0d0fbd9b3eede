-- The text of a status at the place where it stands, and that of a mark behind a member.
use Rattle.std.specs.Prelude.{ℕ, zero, suc, List, [], ◌∷◌, Option, Some, None, nat_eq, if◌then◌else◌}
use Rattle.std.specs.Fmt.{decimal}
use Rattle.halo_status.specs.Tree.{Tree}
use Rattle.halo_status.specs.declared.pay.Mark.{Mark}
use Rattle.halo_symbol.specs.Bytes.{body_bytes, members_bytes, node_bytes}
use Rattle.halo_symbol.specs.Characters.{caret, colon}
use Rattle.halo_spell.specs.Canonical.{canonical_body, canonical_node, list_of}
use Rattle.halo_spell.specs.declared.status.Position.{Position}
use Rattle.halo_spell.specs.declared.status.Position.TheVariants as at

-- the bytes of a status there, where the lives have these names
abbrev pub bytes_at : Position → List (List ℕ) → Tree → List ℕ
bytes_at at.Alone names s = body_bytes (canonical_body names s)
bytes_at at.Side names s = members_bytes (list_of (canonical_node names s))
bytes_at at.Member names s = node_bytes (canonical_node names s)

-- the canonical text of a status by itself
abbrev pub status_text : List (List ℕ) → Tree → List ℕ
status_text names s = bytes_at at.Alone names s

-- the bytes before the member at a place: `:`, but none before the first
abbrev pub separator_at : ℕ → List ℕ
separator_at zero = []
separator_at (suc place) = colon ∷ []

-- the bytes behind the member at a place: `^` and the rank where the mark is on that member
abbrev pub mark_bytes_at : Option Mark → ℕ → List ℕ
mark_bytes_at None place = []
mark_bytes_at (Some mark) place = if nat_eq mark.member place then caret ∷ decimal mark.rank else []
