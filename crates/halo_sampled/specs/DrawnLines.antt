-- The lines of the contract that is drawn for a sample.
use Rattle.std.specs.Prelude.{ℕ, zero, suc, ◌+◌, ◌*◌, List, [], ◌∷◌, ◌++◌, None, Some, codes, get_or}
use Rattle.std.specs.Fmt.{decimal}
use Rattle.halo_status.specs.declared.pay.Kind.TheVariants.{Due, Immediate, Insurance}
use Rattle.halo_symbol.specs.Symbol.{Symbol, decreasing, increasing, level}
use Rattle.halo_symbol.specs.Tree as tree
use Rattle.halo_symbol.specs.Tree.{Body, Members, Node, and, at_least, exactly, last, list, one, reversion, term}
use Rattle.halo_syntax.specs.Line.{Line, interest, life, pay, premium, reserve}
use Rattle.halo_sample.specs.declared.contract.TheConstants.{AGES, AMOUNTS, LIVES, PAYS, RATES, SYMBOLS, YOUNGEST}
use Rattle.halo_sample.specs.declared.tables.TheConstants.{LAST_AGE, TABLES}
use Rattle.halo_sample.specs.Generator.{drawn, drawn_second, next_state, state_behind_pairs, state_behind_two}

-- the name of the life, and of the table, with this number
abbrev pub life_name : ℕ → List ℕ
life_name number = codes "p" ++ decimal number

abbrev pub table_name : ℕ → List ℕ
table_name number = codes "t" ++ decimal number

-- the life of a name as a member of a list
abbrev pub p1 : Node
p1 = tree.life (codes "p1")

abbrev pub p2 : Node
p2 = tree.life (codes "p2")

abbrev pub p3 : Node
p3 = tree.life (codes "p3")

abbrev pub p4 : Node
p4 = tree.life (codes "p4")

abbrev pub p5 : Node
p5 = tree.life (codes "p5")

abbrev pub p6 : Node
p6 = tree.life (codes "p6")

abbrev pub p7 : Node
p7 = tree.life (codes "p7")

abbrev pub p8 : Node
p8 = tree.life (codes "p8")

-- lists of two and of three members, and of all lives
abbrev pub pair : Node → Node → Members
pair m n = and m (one n)

abbrev pub triple : Node → Node → Node → Members
triple m n o = and m (pair n o)

abbrev pub all_lives : Members
all_lives = and p1 (and p2 (and p3 (and p4 (and p5 (triple p6 p7 p8)))))

-- a level annuity-due, and a level insurance, on a body
abbrev pub due_on : Body → Symbol
due_on body = record {
  defer = None;
  vary = level;
  kind = Due;
  causes = None;
  body = body;
  mark = None;
}

abbrev pub insurance_on : Body → Symbol
insurance_on body = record (due_on body) { kind = Insurance }

-- `ad[bar(p1:p2:p3)]`
abbrev pub on_last : Symbol
on_last = due_on (list (one (last (triple p1 p2 p3))))

-- `A[p1^1:p2:p3]`
abbrev pub on_first_death : Symbol
on_first_death =
    record (insurance_on (list (triple p1 p2 p3))) {
      mark = Some (record { member = 0; rank = codes "1" });
    }

-- `a[p1:p2|p3:p4]`
abbrev pub on_reversion : Symbol
on_reversion = record (due_on (reversion (pair p1 p2) (pair p3 p4))) { kind = Immediate }

-- `A[4/(p1:p2:p3:p4:p5:p6:p7:p8)]`
abbrev pub on_at_least : Symbol
on_at_least = insurance_on (list (one (at_least (codes "4") all_lives)))

-- `ad[[3]/(p1:p2:p3:p4:p5:p6:p7:p8)]`
abbrev pub on_exactly : Symbol
on_exactly = due_on (list (one (exactly (codes "3") all_lives)))

-- `A{death}[bar(p5:p6)]`
abbrev pub on_cause : Symbol
on_cause =
    record (insurance_on (list (one (last (pair p5 p6))))) {
      causes = Some (record { first = codes "death"; others = [] });
    }

-- `D20A[p7:p8:<20>]`
abbrev pub on_term : Symbol
on_term =
    record (insurance_on (list (triple p7 p8 (term (codes "20"))))) {
      vary = decreasing (codes "20");
    }

-- `10|Ia[2/(p1:p4:p7)]`
abbrev pub on_later : Symbol
on_later = record {
  defer = Some (codes "10");
  vary = increasing;
  kind = Immediate;
  causes = None;
  body = list (one (at_least (codes "2") (triple p1 p4 p7)));
  mark = None;
}

-- the symbols of pays, and the one with this number
abbrev pub drawn_symbols : List Symbol
drawn_symbols =
    on_last ∷ on_first_death ∷ on_reversion ∷ on_at_least ∷ on_exactly ∷ on_cause ∷ on_term
    ∷ on_later ∷ []

abbrev pub symbol_at : ℕ → Symbol
symbol_at choice = get_or drawn_symbols choice on_last

-- the line of the interest
abbrev pub interest_drawn : ℕ → Line
interest_drawn s = interest (decimal (1 + drawn RATES s)) (codes "100") []

-- the line of the life with this number
abbrev pub life_drawn : ℕ → ℕ → Line
life_drawn number s =
    life (life_name number) (table_name (drawn TABLES s)) (decimal (YOUNGEST + drawn_second AGES s))

-- the line of a pay
abbrev pub pay_drawn : ℕ → Line
pay_drawn s = pay (decimal (1 + drawn AMOUNTS s)) (symbol_at (drawn_second SYMBOLS s))

-- so many lines from a number on, for each of which two numbers are drawn
unfoldable pub lines_drawn : (ℕ → ℕ → Line) → ℕ → ℕ → ℕ → List Line
lines_drawn line zero number s = []
lines_drawn line (suc left) number s =
    line number s ∷ lines_drawn line left (suc number) (state_behind_two s)

-- the status of the premium, and the lives of the two reserves
abbrev pub premium_body : Body
premium_body = list (and (last (pair p1 p2)) (one (term (codes "30"))))

abbrev pub first_reserve : List (List ℕ)
first_reserve =
    codes "p1" ∷ codes "p2" ∷ codes "p3" ∷ codes "p4" ∷ codes "p5" ∷ codes "p6" ∷ codes "p7"
    ∷ codes "p8" ∷ []

abbrev pub second_reserve : List (List ℕ)
second_reserve = codes "p2" ∷ codes "p3" ∷ codes "p4" ∷ []

-- the lines of the premium and of the reserves
abbrev pub last_drawn : List Line
last_drawn =
    premium premium_body ∷ reserve (codes "5") first_reserve
    ∷ reserve (codes "10") second_reserve ∷ []

-- the lines of the contract whose first draw is from this state
abbrev pub contract_drawn : ℕ → List Line
contract_drawn s =
    interest_drawn s
    ∷ (lines_drawn life_drawn LIVES 1 (next_state s)
    ++ (lines_drawn (λ _. pay_drawn) PAYS 1 (state_behind_pairs LIVES (next_state s))
    ++ last_drawn))

-- and of that of a number
abbrev pub drawn_lines : ℕ → List Line
drawn_lines number = contract_drawn (state_behind_pairs (TABLES * LAST_AGE) number)
