-- The laws of this crate's definitions, from the general to the particular. Crates above cite the clauses of the contracts, PromiseLaws before all, and laws of single calls.
-- FigureLaws: the figures of documents 01 and 02, before and since request 7
pub mod FigureLaws
-- BytesLaws: lists of bytes
pub mod BytesLaws
-- BufferLaws: the object buffer
pub mod BufferLaws
-- RuleLaws: the rules of an answer
pub mod RuleLaws
-- OutcomeLaws: outcomes
pub mod OutcomeLaws
-- ChainLaws: what a chain of iterators over parts, or over outcomes with their places, gives
pub mod ChainLaws
-- TablesLaws: the tables, value by value, and as the code walks them
pub mod TablesLaws
-- RangesLaws: what a session in range tells of its values
pub mod RangesLaws
-- CallLaws: what open, answer, verdict, field and stamp give
pub mod CallLaws
-- SendLaws: what command gives
pub mod SendLaws
-- JudgeLaws: step 1's joined data, judged
pub mod JudgeLaws
-- ReplyLaws: the number of a reply says its case
pub mod ReplyLaws
-- RefusedLaws: a refused call changes nothing
pub mod RefusedLaws
-- Invariant: what holds after every call
pub mod Invariant
-- BeginLaws: the opening
pub mod BeginLaws
-- InRangeLaws: a session that stands for a reading is in range
pub mod InRangeLaws
-- CommandLaws: the command call
pub mod CommandLaws
-- GoodEndLaws: the good end of a step
pub mod GoodEndLaws
-- AnswerLaws: the answer call
pub mod AnswerLaws
-- VerdictLaws: the verdict call
pub mod VerdictLaws
-- PreviewLaws: the preview
pub mod PreviewLaws
-- FieldLaws: the field call
pub mod FieldLaws
-- StampLaws: the stamp, and that equal stamps have equal findings
pub mod StampLaws
-- GrantLaws: granted, said of the calls
pub mod GrantLaws
-- LeftLaws: how many answers may still be taken
pub mod LeftLaws
-- CountLaws: how many answers are taken
pub mod CountLaws
-- CorrectionLaws: what a 6C does, by the answer taken before, and any other status word
pub mod CorrectionLaws
-- RunLaws: every call, and every list of calls
pub mod RunLaws
-- HistoryLaws: histories with one call more, and with previews taken out
pub mod HistoryLaws
-- PromiseLaws: demand 3
pub mod PromiseLaws
-- CallPromiseLaws: the promise as the contracts carry it
pub mod CallPromiseLaws
-- SameFindingLaws: what cannot change a finding
pub mod SameFindingLaws
-- EndedLaws: a reading that a cause has ended
pub mod EndedLaws
-- ElementsLaws: the fields of step 1's object that a finding does not use
pub mod ElementsLaws
-- BeforeLaws: modes 1 to 4 before and since request 7 of document 02
pub mod BeforeLaws
-- Twelve: worked examples of documents 01 and 02
pub mod Twelve
