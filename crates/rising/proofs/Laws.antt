-- Laws of the definitions beside this folder, a file a topic.
pub mod Rising
