use Rattle.std.proofs.Common.{ap}
use Rattle.ps_tree.specs.ps_scan.declared.token.TokenKind.TheVariants.{Int, Text}
use Rattle.ps_type_pieces.specs.ps_layout.Layout.{lexeme, the_word, the_mark, name_lexeme}
use Rattle.ps_type_pieces.specs.ps_layout.Spellings.{int_text, string_text}
use Rattle.ps_type_pieces.specs.ps_layout.Waiting.{gap_of, waiting, piece_lexemes, piece_weight}
use Rattle.ps_print.proofs.Printing.{prints_lexeme, prints_put}
use Rattle.ps_print.proofs.print.step.Goals as goal

pub returns-in-Word : goal.returns-in-Word
returns-in-Word c =
    prints_lexeme c.args.text.now.items c.write_word.new.text.items c.args.piece (waiting c.args.pending.now)
    (the_word (gap_of c.in-Word.gap) c.in-Word.place) c.write_word.result
    (ap piece_lexemes c.in-Word.is) (ap piece_weight c.in-Word.is) c.write_word.ensures

pub returns-in-Mark : goal.returns-in-Mark
returns-in-Mark c =
    prints_lexeme c.args.text.now.items c.write_mark.new.text.items c.args.piece (waiting c.args.pending.now)
    (the_mark (gap_of c.in-Mark.gap) c.in-Mark.place) c.write_mark.result
    (ap piece_lexemes c.in-Mark.is) (ap piece_weight c.in-Mark.is) c.write_mark.ensures

pub returns-in-Name : goal.returns-in-Name
returns-in-Name c =
    prints_lexeme c.args.text.now.items c.write_spelling.new.text.items c.args.piece (waiting c.args.pending.now)
    (name_lexeme (gap_of c.in-Name.gap) c.in-Name.name.now) c.write_spelling.result
    (ap piece_lexemes c.in-Name.is) (ap piece_weight c.in-Name.is) c.write_spelling.ensures

pub returns-in-Int : goal.returns-in-Int
returns-in-Int c =
    prints_lexeme c.args.text.now.items c.write_int.new.text.items c.args.piece (waiting c.args.pending.now)
    (lexeme (gap_of c.in-Int.gap) Int (int_text c.in-Int.value)) c.write_int.result
    (ap piece_lexemes c.in-Int.is) (ap piece_weight c.in-Int.is) c.write_int.ensures

pub returns-in-Text : goal.returns-in-Text
returns-in-Text c =
    prints_lexeme c.args.text.now.items c.write_string.new.text.items c.args.piece (waiting c.args.pending.now)
    (lexeme (gap_of c.in-Text.gap) Text (string_text c.in-Text.bytes.now)) c.write_string.result
    (ap piece_lexemes c.in-Text.is) (ap piece_weight c.in-Text.is) c.write_string.ensures

pub returns-in-Form : goal.returns-in-Form
returns-in-Form c =
    prints_put c.args.text.now.items c.args.piece _ (waiting c.args.pending.now) (waiting c.put_form.new.pending)
    c.put_form.result c.in-Form.is c.put_form.ensures

pub returns-in-Clause : goal.returns-in-Clause
returns-in-Clause c =
    prints_put c.args.text.now.items c.args.piece _ (waiting c.args.pending.now) (waiting c.put_clause.new.pending)
    c.put_clause.result c.in-Clause.is c.put_clause.ensures

pub returns-in-Operand : goal.returns-in-Operand
returns-in-Operand c =
    prints_put c.args.text.now.items c.args.piece _ (waiting c.args.pending.now) (waiting c.put_operand.new.pending)
    c.put_operand.result c.in-Operand.is c.put_operand.ensures

pub returns-in-Lines : goal.returns-in-Lines
returns-in-Lines c =
    prints_put c.args.text.now.items c.args.piece _ (waiting c.args.pending.now) (waiting c.put_lines.new.pending)
    c.put_lines.result c.in-Lines.is c.put_lines.ensures

pub returns-in-Clauses : goal.returns-in-Clauses
returns-in-Clauses c =
    prints_put c.args.text.now.items c.args.piece _ (waiting c.args.pending.now) (waiting c.put_clauses.new.pending)
    c.put_clauses.result c.in-Clauses.is c.put_clauses.ensures

pub returns-in-MoreClauses : goal.returns-in-MoreClauses
returns-in-MoreClauses c =
    prints_put c.args.text.now.items c.args.piece _ (waiting c.args.pending.now) (waiting c.put_more_clauses.new.pending)
    c.put_more_clauses.result c.in-MoreClauses.is c.put_more_clauses.ensures

pub returns-in-Arms : goal.returns-in-Arms
returns-in-Arms c =
    prints_put c.args.text.now.items c.args.piece _ (waiting c.args.pending.now) (waiting c.put_arms.new.pending)
    c.put_arms.result c.in-Arms.is c.put_arms.ensures

pub returns-in-Arm : goal.returns-in-Arm
returns-in-Arm c =
    prints_put c.args.text.now.items c.args.piece _ (waiting c.args.pending.now) (waiting c.put_arm.new.pending)
    c.put_arm.result c.in-Arm.is c.put_arm.ensures

pub returns-in-Items : goal.returns-in-Items
returns-in-Items c =
    prints_put c.args.text.now.items c.args.piece _ (waiting c.args.pending.now) (waiting c.put_items.new.pending)
    c.put_items.result c.in-Items.is c.put_items.ensures

pub returns-in-MoreItems : goal.returns-in-MoreItems
returns-in-MoreItems c =
    prints_put c.args.text.now.items c.args.piece _ (waiting c.args.pending.now) (waiting c.put_more_items.new.pending)
    c.put_more_items.result c.in-MoreItems.is c.put_more_items.ensures

pub returns-in-Item : goal.returns-in-Item
returns-in-Item c =
    prints_put c.args.text.now.items c.args.piece _ (waiting c.args.pending.now) (waiting c.put_item.new.pending)
    c.put_item.result c.in-Item.is c.put_item.ensures

pub returns-in-Type : goal.returns-in-Type
returns-in-Type c =
    prints_put c.args.text.now.items c.args.piece _ (waiting c.args.pending.now) (waiting c.put_type.new.pending)
    c.put_type.result c.in-Type.is c.put_type.ensures

pub returns-in-Types : goal.returns-in-Types
returns-in-Types c =
    prints_put c.args.text.now.items c.args.piece _ (waiting c.args.pending.now) (waiting c.put_types.new.pending)
    c.put_types.result c.in-Types.is c.put_types.ensures

pub returns-in-MoreTypes : goal.returns-in-MoreTypes
returns-in-MoreTypes c =
    prints_put c.args.text.now.items c.args.piece _ (waiting c.args.pending.now) (waiting c.put_more_types.new.pending)
    c.put_more_types.result c.in-MoreTypes.is c.put_more_types.ensures

pub returns-in-Gives : goal.returns-in-Gives
returns-in-Gives c =
    prints_put c.args.text.now.items c.args.piece _ (waiting c.args.pending.now) (waiting c.put_gives.new.pending)
    c.put_gives.result c.in-Gives.is c.put_gives.ensures

pub returns-in-Groups : goal.returns-in-Groups
returns-in-Groups c =
    prints_put c.args.text.now.items c.args.piece _ (waiting c.args.pending.now) (waiting c.put_groups.new.pending)
    c.put_groups.result c.in-Groups.is c.put_groups.ensures

pub returns-in-MoreGroups : goal.returns-in-MoreGroups
returns-in-MoreGroups c =
    prints_put c.args.text.now.items c.args.piece _ (waiting c.args.pending.now) (waiting c.put_more_groups.new.pending)
    c.put_more_groups.result c.in-MoreGroups.is c.put_more_groups.ensures

pub returns-in-Named : goal.returns-in-Named
returns-in-Named c =
    prints_put c.args.text.now.items c.args.piece _ (waiting c.args.pending.now) (waiting c.put_named.new.pending)
    c.put_named.result c.in-Named.is c.put_named.ensures

pub returns-in-Heading : goal.returns-in-Heading
returns-in-Heading c =
    prints_put c.args.text.now.items c.args.piece _ (waiting c.args.pending.now) (waiting c.put_heading.new.pending)
    c.put_heading.result c.in-Heading.is c.put_heading.ensures
