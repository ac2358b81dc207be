-- Laws of the definitions beside this folder, a file a topic.
pub mod Notes
pub mod Lines
pub mod Examples
pub mod Rules
