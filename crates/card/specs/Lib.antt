-- What the contracts of this crate mean.
-- Fascn: the FASC-N
pub mod Fascn
-- Tlv: the header of a TLV, and an encoder
pub mod Tlv
-- Template: the SELECT answer
pub mod Template
-- Object: the data objects and their fields
pub mod Object
-- Date: field 35, and the calendar
pub mod Date
-- Command: commands and status words
pub mod Command
-- FascnCode, TemplateCode, ObjectCode: how the code goes about it; no public contract cites them
pub mod FascnCode
pub mod TemplateCode
pub mod ObjectCode
