pub mod LinesOfInput
pub mod DocumentLaws
pub mod TableLaws
pub mod EntriesLeft
pub mod KeyLaws
pub mod AcceptedData
pub mod ReadData
pub mod TablesBack
pub mod Puts
pub mod EntryTables
pub mod PlainTables
mod DivisionCases
mod DataCases
mod KeyCases
